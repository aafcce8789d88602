-- What a board of the broadcast hashes in a step, the board of bytes that shows it hashes.
use Prim.Native.Nat.{ℕ}
use mathlib.Core.Bool.{Bool, true, false}
use mathlib.Core.Path.{◌≡◌, refl, subst, sym}
use mathlib.Core.List.{List, [], Memᴰ}
use mathlib.Core.Option.{Option, some, none}
use Rattle.octets.specs.Bytes.{pick}
use Rattle.table.specs.declared.Table.{Table}
use Rattle.board.specs.Planned.{plan_of}
use Rattle.line.specs.Run.{Input, hand, tell}
use Rattle.line.proofs.Tests.{none_some}
use Rattle.line.proofs.Lifted.{shows_by}
use Rattle.line_fragments.specs.Step.{BoardState}
use Rattle.line_fragments.specs.Hashed.{hashed_by, hashes}
use Rattle.line.specs.Bytes.{bytes}
use Rattle.line_code.specs.Parts.{line_of}
use Rattle.line_desk.specs.Desk.{Desk, Lend}
use Rattle.line_desk.proofs.Carry.{sees}
use Rattle.line_demand.specs.Strings.{plan_strings, step_strings}
use Rattle.line_demand.proofs.Carry.{not_read, agreed, follows, Holds}

module _ (b : Table) where
  handed_hashes : (j : ℕ) (d : Desk) (x : BoardState (line_of b)) → Holds b j d x → (i : ℕ) (r y : List ℕ) → hashes (line_of b) x (hand i r) y
      → Memᴰ y (step_strings (some d) (hand i r))
  unfolding step_strings pick follows
  handed_hashes j d x h i r y q = go (bytes r) refl
    where
      go : (c : Bool) → bytes r ≡ c → Memᴰ y (pick c (plan_strings (plan_of d.state i r d.out d.delivery) d.state i r) [])
      go true e = (agreed b j d.state x h.shown i r d.out d.delivery e h.out h.delivery).hashes y
          (subst (λ (z : BoardState (line_of b)). hashes (line_of b) z (hand i r) y) (sym h.shown.shows) q)
      go false e = absurd (subst (λ a. hashed_by (line_of b) x a y) (not_read b x i r e) q)

  pub step_hashes : (j : ℕ) (o : Option Desk) (x : BoardState (line_of b)) → shows_by (Holds b) j o x → (w : Input Lend (List ℕ)) (z : Input ⊥ (List ℕ)) (y : List ℕ)
      → sees o w ≡ some z → hashes (line_of b) x z y → Memᴰ y (step_strings o w)
  step_hashes j none x h w z y e q = none_some z e
  step_hashes j (some d) x h (tell l) z y e q = none_some z e
  step_hashes j (some d) x h (hand i r) z y e q =
      let p : z ≡ hand i r = cc in
      handed_hashes j d x h i r y (subst (λ a. hashes (line_of b) x a y) p q)
