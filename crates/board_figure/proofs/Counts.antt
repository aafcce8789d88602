-- How many parties are for a root: what a message received changes, and that no two roots have n - t votes.
use mathlib.Core.Path.{◌≡◌}
use Prim.Native.Nat.{ℕ, ◌+◌, ◌≤◌}
use mathlib.Core.List.{List}
use mathlib.Core.Bool.{true, false}
use mathlib.Core.Option.{Option, none, some}
use lib.Count.{ones}
use Rattle.octets.specs.Bytes.{same}
use Rattle.octets.proofs.Picks.{and_r}
use Rattle.table.specs.Table.{most_of}
use Rattle.table.specs.declared.Table.{Table}
use Rattle.table.proofs.Within.{Within}
use Rattle.figure.specs.Received.{is_for}
use Rattle.figure.proofs.Counts.{parties_fewer, parties_else, parties_one, for_else, one_most}
use Rattle.board_figure.specs.Figure.{echo, vote, Piece, Echo, Figure, correct, receive, echo_for, usable_echo, echoing, usables, voting}

module _ (b : Table) (i : ℕ) (x : Figure) where
  -- an echo leaves the echoes for other roots as they are
  pub echo_else : (p : Piece) (r : List ℕ) → same p.root r ≡ false → echoing b (receive b i (echo p) x) r ≡ echoing b x r
  unfolding receive echo_for
  echo_else p r e = parties_else b (echo_for r) i (record { root = p.root; fragment = p.fragment; usable = correct b i p }) x.echo_of e

  -- a vote the votes for other roots
  pub vote_else : (q r : List ℕ) → same q r ≡ false → voting b (receive b i (vote q) x) r ≡ voting b x r
  unfolding receive
  vote_else q r e = for_else b i q r x.vote_of e

  -- and it is one vote
  pub vote_one : (q r : List ℕ) → ones (voting b (receive b i (vote q) x) r) ≤ ones (voting b x r) + 1
  unfolding receive
  vote_one q r = parties_one b (is_for r) i q x.vote_of

-- a usable echo is an echo
usable_echo_lem : (r : List ℕ) (o : Option Echo) → usable_echo r o ≡ true → echo_for r o ≡ true
unfolding usable_echo echo_for
usable_echo_lem r none h = h
usable_echo_lem r (some e) h = and_r e.usable (same e.root r) h

pub usables_fewer : (b : Table) (x : Figure) (r : List ℕ) → ones (usables b x r) ≤ ones (echoing b x r)
usables_fewer b x r = parties_fewer b (λ j. usable_echo r (x.echo_of j)) (λ j. echo_for r (x.echo_of j)) (λ j. usable_echo_lem r (x.echo_of j))

-- no two roots have n - t votes
pub one_root : (b : Table) → Within b → (x : Figure) (r q : List ℕ) → most_of b ≤ ones (voting b x r) → most_of b ≤ ones (voting b x q) → r ≡ q
one_root b w x r q = one_most b w x.vote_of r q
