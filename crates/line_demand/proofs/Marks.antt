-- A record that is taken does to the bytes what the broadcast's step does to the state that they show.
use Prim.Native.Nat.{ℕ, suc, ◌+◌, ◌^◌, ◌≤◌, ◌<◌}
use native.Mathlib.Omega.{arith}
use mathlib.Core.Bool.{Bool, true, false}
use mathlib.Core.Path.{◌≡◌, refl, ap, ◌∙◌}
use mathlib.Core.List.{List}
use borrow.Author.Tests.{eqb-true}
use lib.Bits.{bit_or}
use lib.Dec.{T, eqb}
use lib.ListN.{length}
use Rattle.octets.specs.Bytes.{pick, part, put, two, two_at, same}
use Rattle.octets.specs.Sets.{has}
use Rattle.octets.proofs.Picks.{or_true, or_false, is_true}
use Rattle.table.specs.Table.{s_max}
use Rattle.table.specs.declared.Table.{Table}
use Rattle.table.proofs.Within.{within}
use Rattle.tree.specs.Check.{path_correct}
use Rattle.state.specs.Kept.{member, masked}
use Rattle.state.specs.State.{fixed_bytes, view_of, len_at, echo_at, vote_at, fragment_at}
use Rattle.state.specs.declared.Marks.{Marks}
use Rattle.state.proofs.Facts.{Sounds}
use Rattle.state.proofs.Masks.{member_add, masked_same, masked_add}
use Rattle.state.proofs.Views.{vote_new, vote_old, vote_echoes, vote_len, vote_fragment, echo_new, echo_old, echo_votes, fragment_new, fragment_old}
use Rattle.board.specs.Stepped.{marked, voted_now, output_now, ends_now, with_flags, settled_to}
use Rattle.line.specs.Core.{Word, Core, set_at, set_word}
use Rattle.line.specs.Core as Core
use Rattle.line.proofs.Tests.{off}
use Rattle.line_fragments.specs.Step.{send, echo, vote, Line, BoardState, take, after_act}
use Rattle.line_fragments.specs.Step as Fragments
use Rattle.line_code.specs.Parts.{code_of, line_of}
use Rattle.line_desk.proofs.Shown.{keep_core}
use Rattle.line_demand.proofs.Shown.{spoke_in, set_in, root_at, core_of, fragment_in, shown_of}
use Rattle.line_demand.proofs.Settled.{usable_inside, echo_below, vote_below, length_below, half}

false_if : (c d : Bool) → (c ≡ true → d ≡ true) → d ≡ false → c ≡ false
false_if true d h e = off (cc (h refl))
false_if false d h e = refl

heard : (set j : ℕ) → T (member set (suc j)) → has set j ≡ true
unfolding member
heard set j t = is_true (has set j) t

module _ (b : Table) (own : ℕ) (m : Marks) (s : List ℕ) (g : Sounds (view_of b m s)) (long : fixed_bytes ≤ length s) where
  abbrev B : Line b.n b.t (code_of b)
  B = line_of b

  abbrev S : BoardState B
  S = shown_of b own m s

  -- a board's place
  place : (i : ℕ) → i < b.n → i < 64
  place i h = omega (arith, (within b g.lim).few)

  echo_place : (j : ℕ) → T (member m.echoes (suc j)) → j < 64
  echo_place j t = echo_below (view_of b m s) g j (heard m.echoes j t)

  vote_place : (j : ℕ) → T (member m.votes (suc j)) → j < 64
  vote_place j t = vote_below (view_of b m s) g j (heard m.votes j t)

  -- ---- an echo from board i + 1

  module _ (i f : ℕ) (root path fragment : List ℕ) (hi : i < b.n) (lr : length root ≡ 32) (lf : length fragment ≡ f) (hf : f ≤ s_max b) (small : f < 65536)
      (room : fragment_at (s_max b) i + f ≤ length s) (first : has m.echoes i ≡ false) where
    abbrev good : Bool
    good = path_correct b.n (suc i) root path fragment

    abbrev m_e : Marks
    m_e = marked 2 i good m

    abbrev s_e : List ℕ
    s_e = put (fragment_at (s_max b) i) fragment (put (len_at i) (two f) (put (echo_at i) root s))

    unused : member m.usable (suc i) ≡ false
    unfolding member
    unused = false_if (has m.usable i) (has m.echoes i) (usable_inside (view_of b m s) g i) first

    usable_by : (c : Bool) (k : ℕ) → member (pick c (bit_or m.usable (2 ^ i)) m.usable) k ≡ set_at (member m.usable) (suc i) c k
    unfolding pick
    usable_by true k = member_add m.usable i k
    usable_by false k = go (eqb k (suc i)) (eqb-true k (suc i))
      where
        go : (c : Bool) → (c ≡ true → k ≡ suc i) → member m.usable k ≡ pick c false (member m.usable k)
        go true e = rw (e refl) unused
        go false e = refl

    usable_is : (k : ℕ) → member m_e.usable k ≡ set_at (member m.usable) (suc i) good k
    unfolding marked
    usable_is k = usable_by good k

    pub echo_core : core_of m_e s_e ≡ Core.keep (core_of m s) Word.echo (suc i) root
    unfolding marked pick
    echo_core = keep_core (spoke_in m) (spoke_in m_e) (set_in m) (set_in m_e) (λ w j. part (root_at w j) 32 s) (λ w j. part (root_at w j) 32 s_e) Word.echo i root words sets
        (echo_new (s_max b) i f root fragment s (place i hi) lr lf hf small long room) old
      where
        words : (w : Word) → spoke_in m_e w ≡ spoke_in m w
        words Word.echo = or_false m.acquired
        words Word.vote = refl

        sets : (w : Word) → set_in m_e w ≡ set_word (set_in m) Word.echo (bit_or m.echoes (2 ^ i)) w
        sets Word.echo = refl
        sets Word.vote = refl

        old : (w : Word) (j : ℕ) → T (member (set_in m w) (suc j)) → (w ≡ Word.echo → j ≡ i → ⊥) → part (root_at w j) 32 s_e ≡ part (root_at w j) 32 s
        old Word.echo j t ne = echo_old (s_max b) i f root fragment s (place i hi) lr lf hf small long room j (echo_place j t) (ne refl)
        old Word.vote j t ne = echo_votes (s_max b) i f root fragment s (place i hi) lr lf hf small long room j (vote_place j t)

    fragment_is : (k : ℕ) → masked m_e.echoes (fragment_in (s_max b) s_e) k ≡ set_at (masked m.echoes (fragment_in (s_max b) s)) (suc i) fragment k
    unfolding marked pick
    fragment_is = masked_add m.echoes i fragment (fragment_in (s_max b) s) (fragment_in (s_max b) s_e)
        (fragment_new (s_max b) i f root fragment s (place i hi) lr lf hf small long room)
        (λ j t ne. fragment_old (s_max b) i f root fragment s (place i hi) lr lf hf small long room j (echo_place j t) ne
        (length_below (view_of b m s) g j (heard m.echoes j t)))

    module _ (inside : (j : ℕ) → has m_e.usable j ≡ true → has m_e.echoes j ≡ true) where
      -- what is kept of it, and whether a vote is due
      pub echo_half : half b own m_e s_e root inside ≡ Fragments.keep_act B S (take (suc i) (echo root path fragment))
      unfolding marked
      echo_half = λ x. record {
        own = own;
        core = Core.with_vote b.n b.t same (echo_core x) root;
        usable = λ k. usable_is k x;
        frag = λ k. fragment_is k x;
        out = m.output;
        done = m.done;
      }

  -- ---- a vote from board i + 1

  module _ (i : ℕ) (root : List ℕ) (hi : i < b.n) (lr : length root ≡ 32) (ok : Bool) where
    abbrev m_v : Marks
    m_v = marked 3 i ok m

    abbrev s_v : List ℕ
    s_v = put (vote_at i) root s

    pub vote_core : core_of m_v s_v ≡ Core.keep (core_of m s) Word.vote (suc i) root
    unfolding marked pick
    vote_core = keep_core (spoke_in m) (spoke_in m_v) (set_in m) (set_in m_v) (λ w j. part (root_at w j) 32 s) (λ w j. part (root_at w j) 32 s_v) Word.vote i root words sets
        (vote_new i root s (place i hi) lr long) old
      where
        words : (w : Word) → spoke_in m_v w ≡ spoke_in m w
        words Word.echo = or_false m.acquired
        words Word.vote = refl

        sets : (w : Word) → set_in m_v w ≡ set_word (set_in m) Word.vote (bit_or m.votes (2 ^ i)) w
        sets Word.echo = refl
        sets Word.vote = refl

        old : (w : Word) (j : ℕ) → T (member (set_in m w) (suc j)) → (w ≡ Word.vote → j ≡ i → ⊥) → part (root_at w j) 32 s_v ≡ part (root_at w j) 32 s
        old Word.echo j t ne = vote_echoes i root s (place i hi) lr long j (echo_place j t)
        old Word.vote j t ne = vote_old i root s (place i hi) lr long j (ne refl)

    fragments_stay : (k : ℕ) → masked m_v.echoes (fragment_in (s_max b) s_v) k ≡ masked m.echoes (fragment_in (s_max b) s) k
    unfolding marked pick
    fragments_stay = masked_same m.echoes (fragment_in (s_max b) s) (fragment_in (s_max b) s_v)
        (λ j t. ap (λ (x : ℕ). part (fragment_at (s_max b) j) x s_v) (vote_len i root s (place i hi) lr long j (echo_place j t))
        ∙ vote_fragment i root s (place i hi) lr long (fragment_at (s_max b) j) (two_at s (len_at j)) (omega arith))

    module _ (inside : (j : ℕ) → has m_v.usable j ≡ true → has m_v.echoes j ≡ true) where
      pub vote_half : half b own m_v s_v root inside ≡ Fragments.keep_act B S (take (suc i) (vote root))
      unfolding marked pick
      vote_half = λ x. record {
        own = own;
        core = Core.with_vote b.n b.t same (vote_core x) root;
        usable = member m.usable;
        frag = λ k. fragments_stay k x;
        out = m.output;
        done = m.done;
      }

-- ---- a send

pub send_is : (b : Table) (own : ℕ) (m : Marks) (s : List ℕ) (i j : ℕ) (ok : Bool) (root path fragment : List ℕ)
    → shown_of b own (settled_to b false (marked 1 i ok m) s root) s ≡ after_act (line_of b) (shown_of b own m s) (take j (send root path fragment))
unfolding marked pick settled_to with_flags voted_now output_now ends_now
send_is b own m s i j ok root path fragment = λ x. record {
  own = own;
  core = record { spoke = λ w. words w x; set = λ w. sets w x; val = λ w. vals w x };
  usable = member m.usable;
  frag = masked m.echoes (fragment_in (s_max b) s);
  out = or_false m.output x;
  done = or_false m.done x;
}
  where
    m2 : Marks
    m2 = settled_to b false (marked 1 i ok m) s root

    words : (w : Word) → spoke_in m2 w ≡ set_word (spoke_in m) Word.echo true w
    words Word.echo = or_true m.acquired
    words Word.vote = or_false m.voted

    sets : (w : Word) → (core_of m2 s).set w ≡ (core_of m s).set w
    sets Word.echo = refl
    sets Word.vote = refl

    vals : (w : Word) → (core_of m2 s).val w ≡ (core_of m s).val w
    vals Word.echo = refl
    vals Word.vote = refl
