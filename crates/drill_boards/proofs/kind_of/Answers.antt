use mathlib.Core.Path.{◌≡◌}
use Prim.Native.Nat.{ℕ}
use mathlib.Core.Bool.{true, false}
use native.Mathlib.Omega.{arith}
use Rattle.std.proofs.Common.{rules}
use Rattle.std.specs.Prelude.{Result, Ok, Err, MatchOption}
use Rattle.std.specs.Result.{result_ok}
use Rattle.refusal.specs.declared.Refusal.{Refusal}
use Rattle.record.specs.declared.Kind.{Kind}
use Rattle.record.specs.Form.{is_kind}
use Rattle.record.specs.Kinds.{Kinds, kind_number}
use Rattle.drill_boards.proofs.kind_of.Goals as goal

no_kind : (n m : ℕ) → is_kind n ≡ false → is_kind m ≡ true → n ≡ m → ⊥
no_kind n m e f g = cc

two_is : is_kind 2 ≡ true
unfolding is_kind
two_is = search rules

three_is : is_kind 3 ≡ true
unfolding is_kind
three_is = search rules

kinds : (n : ℕ) (x : Result Kind Refusal) → Kinds n x → MatchOption (result_ok x) ((n ≡ 2 → ⊥) × (n ≡ 3 → ⊥)) (λ k. kind_number k ≡ n)
kinds n (Ok k) h = h
kinds n (Err e) h = (no_kind n 2 h.1 two_is, no_kind n 3 h.1 three_is)

pub returns : goal.returns
returns c =
    let e = c.in_ok-first.ensures.item.4 (omega arith) 0 in
    rw (c.ok.ensures.value, ← e) (kinds _ c.try_from.result c.try_from.ensures)
