-- From boards on paper to boards of bytes, whatever their calls are: what a kind of board brings, and what then holds of every line of them.
use Prim.Native.Nat.{ℕ}
use mathlib.Core.Bool.{Bool, true, false}
use mathlib.Core.Path.{◌≡◌, refl}
use mathlib.Core.List.{List}
use mathlib.Core.Option.{Option, some, none}
use lib.Dec.{T}
use Rattle.octets.specs.Bytes.{pick}
use Rattle.line.specs.Run.{Machine, Input, In, hand, tell, Run, state}
use Rattle.line.specs.Bytes.{bytes, AfterCall, Calls, untouched, called, next, puts, gives, byte_line}
use Rattle.line.proofs.Runs.{along}
use Rattle.line.proofs.Tests.{none_some}
use Rattle.line.proofs.Projected.{Meets, Carries}

-- sees: what a started board, holding this, hands to its board on paper, if anything
pub record Lifts (K : Calls) (M : Machine) (sees : K.Desk → Input K.Order (List ℕ) → Option (In M)) (lent : ℕ → K.Desk) (keeps : ℕ → Bool) : Type 1 where
  pub Shows : ℕ → K.Desk → M.State → Type 0  -- what board j holds shows this state
  pub of : List ℕ → Option M.Rec
  pub res : K.Result → Option M.Result
  pub starts : (j : ℕ) → T (keeps j) → (d : K.Desk) → K.start j (lent j) ≡ some d → Shows j d (M.start j)
  pub seen : (d : K.Desk) (x : Input K.Order (List ℕ)) (i : ℕ) (ρ : M.Rec) → sees d x ≡ some (hand i ρ) → (β : List ℕ) × (x ≡ hand i β) × (of β ≡ some ρ)
  pub steps : (j : ℕ) (d : K.Desk) (s : M.State) → Shows j d s → (i : ℕ) (r : List ℕ) → bytes r ≡ true
      → Meets M (Shows j) of res s (sees d (hand i r)) (K.step d i r).desk (K.step d i r).put (K.step d i r).given
  -- what is no string of bytes is nothing to the board on paper either
  pub deaf : (j : ℕ) (d : K.Desk) (s : M.State) → Shows j d s → (i : ℕ) (r : List ℕ) → bytes r ≡ false
      → Meets M {Rec = List ℕ} {Result = K.Result} (Shows j) of res s (sees d (hand i r)) d (λ k. none) none
  pub obeys : (j : ℕ) (d : K.Desk) (s : M.State) → Shows j d s → (o : K.Order)
      → Meets M (Shows j) of res s (sees d (tell o)) (K.obey d o).desk (K.obey d o).put (K.obey d o).given

-- a board that is not started sees nothing
abbrev pub sees_by : {D X Y : Type 0} → (D → X → Option Y) → Option D → X → Option Y
sees_by sees none x = none
sees_by sees (some d) x = sees d x

-- and shows nothing
abbrev pub shows_by : {D S : Type 0} → (ℕ → D → S → Type 0) → ℕ → Option D → S → Type 0
shows_by Shows j none s = Unit {0}
shows_by Shows j (some d) s = Shows j d s

module _ {K : Calls} {M : Machine} {sees : K.Desk → Input K.Order (List ℕ) → Option (In M)} {lent : ℕ → K.Desk} {keeps : ℕ → Bool} (A : Lifts K M sees lent keeps) where
  abbrev Follows : ℕ → M.State → Option (In M) → AfterCall K.Desk K.Result → Type 0
  Follows j s o l = Meets M (A.Shows j) A.of A.res s o l.desk l.put l.given

  follows : (j : ℕ) (d : K.Desk) (s : M.State) → A.Shows j d s → (x : Input K.Order (List ℕ)) → Follows j s (sees d x) (called K d x)
  unfolding called pick
  follows j d s h (tell o) = A.obeys j d s h o
  follows j d s h (hand i r) = go (bytes r) refl
    where
      go : (c : Bool) → bytes r ≡ c → Follows j s (sees d (hand i r)) (pick c (K.step d i r) (untouched K d))
      go true e = A.steps j d s h i r e
      go false e = A.deaf j d s h i r e

  pub starts : (j : ℕ) → T (keeps j) → (o : Option K.Desk) → K.start j (lent j) ≡ o → shows_by A.Shows j o (M.start j)
  starts j kj none e = tt
  starts j kj (some d) e = A.starts j kj d e

  pub seen : (o : Option K.Desk) (x : Input K.Order (List ℕ)) (i : ℕ) (ρ : M.Rec) → sees_by sees o x ≡ some (hand i ρ) → (β : List ℕ) × (x ≡ hand i β) × (A.of β ≡ some ρ)
  seen none x i ρ e = none_some (hand i ρ) e
  seen (some d) x i ρ e = A.seen d x i ρ e

  pub meets : (j : ℕ) (o : Option K.Desk) (s : M.State) → shows_by A.Shows j o s → (x : Input K.Order (List ℕ))
      → Meets M (shows_by A.Shows j) A.of A.res s (sees_by sees o x) (next K o x) (puts K o x) (gives K o x)
  unfolding next puts gives
  meets j none s h x = record { shows = tt; puts = λ k. refl; gives = refl }
  meets j (some d) s h x = let f = follows j d s h x in record { shows = f.shows; puts = f.puts; gives = f.gives }

  unfoldable pub lifted : Carries (byte_line K lent) M (sees_by sees) keeps
  lifted = record {
    Shows = shows_by A.Shows;
    of = A.of;
    res = A.res;
    starts = λ j kj. starts j kj (K.start j (lent j)) refl;
    seen = seen;
    meets = meets;
  }

-- a board that is started stays so
module _ (K : Calls) (lent : ℕ → K.Desk) (j : ℕ) where
  goes_on : (o : Option K.Desk) (x : Input K.Order (List ℕ)) → (d : K.Desk) × (o ≡ some d) → (d : K.Desk) × (next K o x ≡ some d)
  unfolding next
  goes_on none x (d, e) = none_some d e
  goes_on (some d) x h = ((called K d x).desk, refl)

  pub started : (d : K.Desk) × (K.start j (lent j) ≡ some d) → (r : Run (byte_line K lent)) → (d : K.Desk) × (state (byte_line K lent) r j ≡ some d)
  started begun = along (byte_line K lent) (λ q o. (d : K.Desk) × (o ≡ some d)) j begun
      (λ q x h. goes_on (state (byte_line K lent) q j) x h) (λ q k x h. h)
