-- The parties for a root, as figure 5 counts them, are the boards that name it in a board's bytes.
use mathlib.Core.Path.{◌≡◌, refl}
use Prim.Native.Nat.{ℕ, suc, ◌<◌}
use mathlib.Core.List.{List}
use mathlib.Core.Bool.{Bool, true, false, not, ◌&&◌, ◌||◌}
use mathlib.Core.Option.{none, some}
use native.Mathlib.Omega.{arith}
use Rattle.octets.specs.Bytes.{pick, part, same}
use Rattle.octets.specs.Sets.{has}
use Rattle.octets.proofs.Picks.{and_l, never}
use Rattle.table.specs.Table.{s_max}
use Rattle.table.specs.declared.Table.{Table}
use Rattle.table.proofs.Within.{within}
use Rattle.state.specs.State.{view_of, echo_at, vote_at}
use Rattle.state.specs.Sound.{usable_ok, length_ok, board_ok, naming}
use Rattle.state.specs.declared.Marks.{Marks}
use Rattle.octets.proofs.Members.{set_of_ext}
use Rattle.state.proofs.Facts.{Sounds}
use Rattle.figure.specs.Received.{parties, shown}
use Rattle.figure.proofs.Counts.{parties_seen}
use Rattle.board_figure.specs.Figure.{echo_for, usable_echo, echoing, usables, voting}
use Rattle.board_figure.specs.Shown.{kept_echo, kept_vote, figure_in}

echo_seen : (c u : Bool) (root fragment r : List ℕ)
    → echo_for r (pick c (some (record { root = root; fragment = fragment; usable = u })) none) ≡ (c && same root r)
unfolding echo_for pick
echo_seen true u root fragment r = refl
echo_seen false u root fragment r = refl

usable_seen : (c u : Bool) (root fragment r : List ℕ) → (u ≡ true → c ≡ true)
    → usable_echo r (pick c (some (record { root = root; fragment = fragment; usable = u })) none) ≡ (u && same root r)
unfolding usable_echo pick
usable_seen true u root fragment r h = refl
usable_seen false true root fragment r h = never (h refl)
usable_seen false false root fragment r h = refl

-- "usable is within echoes heard"
abbrev pub Heard : Table → Marks → Type 0
Heard b m = (j : ℕ) → j < b.n → has m.usable j ≡ true → has m.echoes j ≡ true

implied : (u e l : Bool) → ((not u || e) && l) ≡ true → u ≡ true → e ≡ true
implied true e l h g = and_l e l h
implied false e l h g = never g

pub heard : (b : Table) (m : Marks) (s : List ℕ) → Sounds (view_of b m s) → Heard b m
unfolding board_ok usable_ok
heard b m s f j h u =
    let w = within b f.lim in
    implied (has m.usable j) (has m.echoes j) (length_ok (view_of b m s) j) (f.boards j (omega (arith, w.few))) u

module _ (b : Table) (m : Marks) (s : List ℕ) where
  pub echoing_seen : (r : List ℕ) → echoing b (figure_in b m s) r ≡ naming b.n m.echoes (λ j. part (echo_at j) 32 s) r
  unfolding parties naming shown
  echoing_seen r =
      set_of_ext (λ i. echo_for r (shown m.echoes (kept_echo (s_max b) m.usable s) (suc i))) (λ i. has m.echoes i && same (part (echo_at i) 32 s) r) 0 b.n
      (λ i l. echo_seen (has m.echoes i) (has m.usable i) (part (echo_at i) 32 s) _ r)

  pub usables_seen : Heard b m → (r : List ℕ) → usables b (figure_in b m s) r ≡ naming b.n m.usable (λ j. part (echo_at j) 32 s) r
  unfolding parties naming shown
  usables_seen h r =
      set_of_ext (λ i. usable_echo r (shown m.echoes (kept_echo (s_max b) m.usable s) (suc i))) (λ i. has m.usable i && same (part (echo_at i) 32 s) r) 0 b.n
      (λ i l. usable_seen (has m.echoes i) (has m.usable i) (part (echo_at i) 32 s) _ r (h i (omega arith)))

  pub voting_seen : (r : List ℕ) → voting b (figure_in b m s) r ≡ naming b.n m.votes (λ j. part (vote_at j) 32 s) r
  voting_seen = parties_seen b m.votes (kept_vote s)
