-- What is due after a record is taken: the same on the bytes as on the state that they show.
use Prim.Native.Nat.{ℕ, ◌^◌, ◌≤◌, ◌<◌}
use native.Mathlib.Omega.{arith}
use mathlib.Core.Bool.{Bool, true, false, not, ◌&&◌, ◌||◌}
use mathlib.Core.Path.{◌≡◌, refl}
use mathlib.Core.List.{List}
use borrow.Author.Tests.{leb-true}
use lib.Dec.{leb, eqb}
use Rattle.octets.specs.Bytes.{pick, same}
use Rattle.octets.specs.Sets.{has}
use Rattle.octets.proofs.Picks.{and_l, and_r}
use Rattle.table.specs.Table.{s_max}
use Rattle.table.specs.declared.Table.{Table}
use Rattle.table.proofs.Within.{within}
use Rattle.state.specs.Kept.{member, masked}
use Rattle.state.specs.State as Bytes
use Rattle.state.specs.Sound.{usable_ok, length_ok, board_ok}
use Rattle.state.specs.declared.Marks.{Marks}
use Rattle.state.proofs.Facts.{Sounds}
use Rattle.octets.proofs.Members.{has_low}
use Rattle.board.specs.Stepped.{voted_now, output_now, ends_now, with_flags, settled_to}
use Rattle.line.specs.Core.{Word, set_word}
use Rattle.line.specs.Core as Core
use Rattle.line.proofs.Tests.{off}
use Rattle.line_fragments.specs.Step.{Line, BoardState, settle, opens}
use Rattle.line_fragments.specs.Step as Fragments
use Rattle.line_code.specs.Parts.{code_of, line_of}
use Rattle.line_demand.proofs.Shown.{spoke_in, core_of, fragment_in, shown_of, due_is, won_is, enough_is}

-- ---- what a sound state keeps of its boards

in_echoes : (u e : Bool) → (not u || e) ≡ true → u ≡ true → e ≡ true
in_echoes true e h t = h
in_echoes false e h t = off (cc)

within_length : (e : Bool) (l max : ℕ) → pick e (leb 1 l && leb l max) (eqb l 0) ≡ true → e ≡ true → l ≤ max
unfolding pick
within_length true l max h t = leb-true l max (and_r (leb 1 l) _ h)
within_length false l max h t = off (cc)

module _ (v : Bytes.State) (g : Sounds v) where
  below : (set i : ℕ) → set < 2 ^ v.table.n → has set i ≡ true → i < 64
  below set i h t = omega (arith, has_low v.table.n set i h t, (within v.table g.lim).few)

  -- "usable is within echoes heard"
  pub usable_inside : (i : ℕ) → has v.marks.usable i ≡ true → has v.marks.echoes i ≡ true
  unfolding board_ok usable_ok
  usable_inside i t =
      in_echoes (has v.marks.usable i) (has v.marks.echoes i) (and_l (usable_ok v i) _ (g.boards i (below v.marks.usable i g.usable t))) t

  pub echo_below : (i : ℕ) → has v.marks.echoes i ≡ true → i < 64
  echo_below i t = below v.marks.echoes i g.echoes t

  pub vote_below : (i : ℕ) → has v.marks.votes i ≡ true → i < 64
  vote_below i t = below v.marks.votes i g.votes t

  -- "kept fragment lengths are 1 to s_max for echoes heard"
  pub length_below : (i : ℕ) → has v.marks.echoes i ≡ true → v.len i ≤ s_max v.table
  unfolding board_ok length_ok
  length_below i t = within_length (has v.marks.echoes i) (v.len i) (s_max v.table) (and_r (usable_ok v i) _ (g.boards i (echo_below i t))) t

voted_is : (b : Table) (m : Marks) (s root : List ℕ) → voted_now b true m s root ≡ (m.voted || Core.due b.n b.t same (core_of m s) root)
unfolding voted_now
voted_is b m s root = rw (due_is b m s root)

-- ---- what is due for a root, once a record is kept: marks m, bytes s

module _ (b : Table) (own : ℕ) (m : Marks) (s root : List ℕ) (inside : (i : ℕ) → has m.usable i ≡ true → has m.echoes i ≡ true) where
  abbrev B : Line b.n b.t (code_of b)
  B = line_of b

  -- voted, if that is due, and nothing else yet
  abbrev pub half : BoardState B
  half = record {
    own = own;
    core = Core.with_vote b.n b.t same (core_of m s) root;
    usable = member m.usable;
    frag = masked m.echoes (fragment_in (s_max b) s);
    out = m.output;
    done = m.done;
  }

  opens_is : output_now b true m s root ≡ opens B half root
  unfolding output_now voted_now
  opens_is = rw (due_is b m s root, won_is b m s root)

  pub ends_is : ends_now b true m s root ≡ Fragments.ends B half root
  unfolding ends_now
  ends_is = rw (opens_is, won_is b m s root, enough_is b m s root inside)

  pub settled_is : shown_of b own (settled_to b true m s root) s ≡ settle B half root
  unfolding settled_to with_flags
  settled_is = λ i. record {
    own = own;
    core = record { spoke = λ w. words w i; set = λ w. sets w i; val = λ w. vals w i };
    usable = member m.usable;
    frag = masked m.echoes (fragment_in (s_max b) s);
    out = opens_is i;
    done = m.done || ends_is i;
  }
    where
      m2 : Marks
      m2 = settled_to b true m s root

      words : (w : Word) → spoke_in m2 w ≡ set_word (spoke_in m) Word.vote (m.voted || Core.due b.n b.t same (core_of m s) root) w
      words Word.echo = refl
      words Word.vote = voted_is b m s root

      sets : (w : Word) → (core_of m2 s).set w ≡ (core_of m s).set w
      sets Word.echo = refl
      sets Word.vote = refl

      vals : (w : Word) → (core_of m2 s).val w ≡ (core_of m s).val w
      vals Word.echo = refl
      vals Word.vote = refl
