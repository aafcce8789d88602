-- A run on paper, taken by the boards of bytes: the same records, handed to the same boards.
use Prim.Native.Nat.{ℕ, ◌≤◌}
use mathlib.Core.Bool.{Bool, true}
use mathlib.Core.Path.{◌≡◌, refl, subst, sym, ◌∙◌, ap}
use mathlib.Core.Logic.{inl, inr}
use mathlib.Core.List.{List}
use mathlib.Core.Option.{some, some-injective}
use lib.Dec.{T}
use lib.ListN.{length}
use Rattle.line.specs.Boards.{Board}
use Rattle.line.specs.Run.{Machine, In, hand, tell, Run, fresh, after, state, Took, Put, Delivered, Genuine, Fair, Over}
use Rattle.line.specs.Bytes.{byte_line}
use Rattle.line.specs.Project.{extend, project}
use Rattle.line.proofs.Projected.{Carries, put_on, put_back, delivered_back}
use Rattle.line.proofs.Lifted.{lifted}
use Rattle.line.proofs.Runs.{last_took, no_took, took_genuine}
use Rattle.line.proofs.Rounds.{Later, Within}
use Rattle.line_desk.specs.Desk.{Desk, BoardKind, desk_board, Roomy}
use Rattle.line_desk.proofs.Carry.{Paper, on_paper, sees, Follows, Holds, lifts, carries, held, passed}

module _ (K : BoardKind) (P : Paper K.Result) (lent : ℕ → Desk) where
  abbrev B : Machine
  B = byte_line (desk_board K) lent

  abbrev M : Machine
  M = on_paper P

  unfoldable pub copied : Run M → Run B
  copied fresh = fresh
  copied (after q j (hand i ρ)) = after (copied q) j (hand i ρ)
  copied (after q j (tell e)) = absurd e

  -- ---- what was handed over

  pub copied_later : {p q : Run M} → Later M p q → Later B (copied p) (copied q)
  unfolding copied
  copied_later Later.same = Later.same
  copied_later {p} (Later.more {q} {k} {x} l) = go x (copied_later l)
    where
      go : (x : In M) → Later B (copied p) (copied q) → Later B (copied p) (copied (after q k x))
      go (hand i ρ) m = Later.more m
      go (tell e) m = absurd e

  pub took_copied : {j i : ℕ} {ρ : List ℕ} {q : Run M} → Took M j (hand i ρ) q → Took B j (hand i ρ) (copied q)
  unfolding copied
  took_copied Took.now = Took.now
  took_copied {j} {i} {ρ} (Took.then {r} {k} {y} p) = go y (took_copied p)
    where
      go : (y : In M) → Took B j (hand i ρ) (copied r) → Took B j (hand i ρ) (copied (after r k y))
      go (hand l x) t = Took.then t
      go (tell e) t = absurd e

  pub took_only : (q : Run M) (j i : ℕ) (ρ : List ℕ) → Took B j (hand i ρ) (copied q) → Took M j (hand i ρ) q
  unfolding copied
  took_only fresh j i ρ t = absurd (no_took B t)
  took_only (after q k (hand a x)) j i ρ t = elim (last_took B t) [
    | inl t ↦ Took.then (took_only q j i ρ t)
    | inr (e, p) ↦ (
        let ei : a ≡ i = cc in
        let ex : x ≡ ρ = cc in
        subst (λ l. Took M j (hand i ρ) (after q l (hand a x))) (sym e)
        (subst (λ y. Took M j (hand i ρ) (after q j y)) (λ z. hand (sym ei z) (sym ex z)) Took.now))
  ]
  took_only (after q k (tell e)) j i ρ t = absurd e

  -- every board is looked at, whether it keeps the rules or not
  abbrev everyone : ℕ → Bool
  everyone j = true

  module _ (F : Follows K P) (roomy : (j : ℕ) → Roomy K (lent j)) (n : ℕ)
      (begins : (j : ℕ) → Board n j → (s : List ℕ) → K.state_room ≤ length s → (K.start j s).number ≡ 0) where
    abbrev C : Carries B M sees everyone
    C = carries K P F lent everyone (λ j kj. roomy j)

    -- seen as a run on paper, it is that run
    is_copied : (q : Run M) → Within M n q → project B M sees (copied q) ≡ q
    unfolding copied project Within
    is_copied fresh w = refl
    is_copied (after q j (hand i ρ)) (bd, w) =
        ap (λ o. extend B M sees (project B M sees (copied q)) j o) (passed K P F lent everyone (λ l kl. roomy l) n begins j tt bd i ρ (copied q))
        ∙ ap (λ p. after p j (hand i ρ)) (is_copied q w)
    is_copied (after q j (tell e)) w = absurd e

    module _ (q : Run M) (w : Within M n q) where
      put_in : {i j : ℕ} {ρ : List ℕ} → Put M i j ρ q → Put B i j ρ (copied q)
      unfolding carries lifted lifts
      put_in {i} {j} {ρ} p =
          let (β, x, y) = put_back C (copied q) i j tt ρ (subst (Put M i j ρ) (sym (is_copied q w)) p) in
          subst (λ a. Put B i j a (copied q)) (some-injective _ _ y) x

      put_out_lem : {i j : ℕ} {ρ : List ℕ} → Put B i j ρ (copied q) → Put M i j ρ q
      unfolding carries lifted lifts
      put_out_lem {i} {j} {ρ} p = subst (Put M i j ρ) (is_copied q w) (put_on C tt refl p)

      pub delivered_copied : (j : ℕ) (d : K.Result) → Delivered M j d q → Delivered B j d (copied q)
      unfolding carries lifted lifts
      delivered_copied j d p =
          let (c, y, x) = delivered_back C (copied q) j tt d (subst (Delivered M j d) (sym (is_copied q w)) p) in
          subst (λ a. Delivered B j a (copied q)) (some-injective _ _ y) x

      -- a board's bytes hold its state in that run
      pub copied_held : (j : ℕ) (d : Desk) → state B (copied q) j ≡ some d → Holds K P F j d (state M q j)
      copied_held j d here = subst (λ p. Holds K P F j d (state M p j)) (is_copied q w) (held K P F lent everyone (λ l kl. roomy l) (copied q) j tt d here)

    last_fair : (keeps : ℕ → Bool) (Sent : ℕ → ℕ → List ℕ → Type 0) {q : Run M} {j : ℕ} {x : In M} → Fair M keeps Sent (after q j x)
        → Fair M keeps Sent q × ((i : ℕ) (ρ : List ℕ) → x ≡ hand i ρ → T (keeps i) → T (keeps j) → Genuine M Sent q i j ρ)
    last_fair keeps Sent (Fair.went f g) = (f, g)

    -- so it is fair and every record is handed over, if that is so of the run on paper
    module _ (keeps : ℕ → Bool) (Sent : ℕ → ℕ → List ℕ → Type 0) where
      pub fair_copied : (q : Run M) → Within M n q → Fair M keeps Sent q → Fair B keeps Sent (copied q)
      unfolding copied Within
      fair_copied fresh w f = Fair.begun
      fair_copied (after q j (hand i ρ)) (bd, w) f = Fair.went (fair_copied q w (last_fair keeps Sent f).0) here
        where
          here : (k : ℕ) (x : List ℕ) → ◌≡◌ {A = In B} (hand i ρ) (hand k x) → T (keeps k) → T (keeps j) → Genuine B Sent (copied q) k j x
          here k x e kk kj =
              let ek : i ≡ k = cc in
              let ex : ρ ≡ x = cc in
              elim ((last_fair keeps Sent f).1 k x (λ z. hand (ek z) (ex z)) kk kj) [ inl p ↦ inl (put_in q w p) | inr s ↦ inr s ]
      fair_copied (after q j (tell e)) w f = absurd e

      pub over_copied : (q : Run M) → Within M n q → Over M keeps Sent q → Over B keeps Sent (copied q)
      unfolding Over
      over_copied q w o i j ρ ki kj g = took_copied (o i j ρ ki kj (elim g [ inl p ↦ inl (put_out_lem q w p) | inr s ↦ inr s ]))

      -- and where it is fair, what was handed over between rule-keeping boards was genuine in the run on paper
      pub genuine_copied : (q : Run M) → Within M n q → Fair B keeps Sent (copied q) → (i j : ℕ) (ρ : List ℕ) → Took M j (hand i ρ) q
          → T (keeps i) → T (keeps j) → Genuine M Sent q i j ρ
      genuine_copied q w f i j ρ t ki kj = elim (took_genuine B f (took_copied t) ki kj) [ inl p ↦ inl (put_out_lem q w p) | inr s ↦ inr s ]
