-- The state of a board of the broadcast that a state's bytes show, and a step's tests on the one and on the other. A root or a fragment is
-- read only where its echo or vote was kept, so what the buffer held before, and what lies beyond board n, is not seen.
use Prim.Native.Nat.{ℕ, suc}
use mathlib.Core.Bool.{Bool, true, ◌&&◌}
use mathlib.Core.Path.{◌≡◌, sym}
use mathlib.Core.List.{List}
use Rattle.octets.specs.Bytes.{part, two_at, same}
use Rattle.octets.specs.Sets.{has}
use Rattle.table.specs.Table.{s_max}
use Rattle.table.specs.declared.Table.{Table}
use Rattle.state.specs.State.{len_at, echo_at, vote_at, fragment_at}
use Rattle.state.specs.Kept.{member, masked}
use Rattle.state.specs.Sound.{naming}
use Rattle.state.specs.declared.Marks.{Marks}
use Rattle.octets.proofs.Members.{set_of_ext}
use Rattle.board.specs.Stepped as Bytes
use Rattle.line.specs.Boards.{count}
use Rattle.line.specs.Core.{Word, Core}
use Rattle.line.specs.Core as Core
use Rattle.line_desk.proofs.Shown.{naming_in, named_at, tally, core_by, due_by_lem, won_by}
use Rattle.line_fragments.specs.Step.{Kept, enough_by}
use Rattle.line_code.specs.Parts.{bits_of}

abbrev pub spoke_in : Marks → Word → Bool
spoke_in m Word.echo = m.acquired
spoke_in m Word.vote = m.voted

abbrev pub set_in : Marks → Word → ℕ
set_in m Word.echo = m.echoes
set_in m Word.vote = m.votes

abbrev pub root_at : Word → ℕ → ℕ
root_at Word.echo i = echo_at i
root_at Word.vote i = vote_at i

abbrev pub core_of : Marks → List ℕ → Core (List ℕ)
core_of m s = core_by (spoke_in m) (set_in m) (λ w j. part (root_at w j) 32 s)

-- the fragment kept of board i + 1, by its length
abbrev pub fragment_in : ℕ → List ℕ → ℕ → List ℕ
fragment_in max s i = part (fragment_at max i) (two_at s (len_at i)) s

-- the marks and bytes of the board with this number
abbrev pub shown_of : Table → ℕ → Marks → List ℕ → Kept (List ℕ) (List ℕ)
shown_of b own m s = record {
  own = own;
  core = core_of m s;
  usable = member m.usable;
  frag = masked m.echoes (fragment_in (s_max b) s);
  out = m.output;
  done = m.done;
}

-- ---- the boards of a set that name a root, as bits

module _ (set kept : ℕ) (root : ℕ → List ℕ) (r : List ℕ) (inside : (i : ℕ) → has set i ≡ true → has kept i ≡ true) where
  pub bits : (n : ℕ) → naming n set root r ≡ bits_of n (naming_in set kept root r)
  unfolding naming bits_of
  bits n = set_of_ext (λ i. has set i && same (root i) r) (λ i. naming_in set kept root r (suc i)) 0 n (λ i h. sym (named_at set kept root r inside i))

-- ---- the tests of a step

module _ (b : Table) (m : Marks) (s root : List ℕ) where
  pub due_is : Bytes.vote_due b m s root ≡ Core.due b.n b.t same (core_of m s) root
  unfolding Bytes.vote_due
  due_is = due_by_lem b.n b.t (spoke_in m) (set_in m) (λ w j. part (root_at w j) 32 s) root

  pub won_is : Bytes.won b m s root ≡ Core.quorum b.n b.t same (core_of m s) root
  unfolding Bytes.won
  won_is = won_by b.n b.t (spoke_in m) (set_in m) (λ w j. part (root_at w j) 32 s) root

  module _ (inside : (i : ℕ) → has m.usable i ≡ true → has m.echoes i ≡ true) where
    abbrev pub usable_in : ℕ → Bool
    usable_in = naming_in m.usable m.echoes (λ j. part (echo_at j) 32 s) root

    pub enough_is : Bytes.enough_usable b m s root ≡ enough_by b.n b.t (count usable_in b.n)
    unfolding Bytes.enough_usable enough_by
    enough_is = rw (tally m.usable m.echoes (λ j. part (echo_at j) 32 s) root inside b.n)
