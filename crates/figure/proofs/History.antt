-- One board, any records handed over one after the other, accepted or refused, is a run of its figure's party, if each record is.
use mathlib.Core.Path.{◌≡◌, subst, ap}
use Prim.Native.Nat.{ℕ}
use mathlib.Core.List.{List, [], ◌∷◌}
use mathlib.Core.Bool.{true}
use Rattle.code.specs.Code.{All}
use Rattle.board_step.specs.Step.{refused}
use Rattle.figure.specs.Fires.{Still, Fires}
use Rattle.figure.specs.Acts.{Act}
use Rattle.figure.specs.Run.{Handed, passed_over, Party, Run, ends, takes, passes, misses, AsParty}
use Rattle.figure.proofs.Firing.{still_alike, fires_alike}

-- parties that differ only in what no branch looks at, and never will
pub record Likeness (p : Party) (Alike : p.At → p.At → Type 0) : Type 0 where
  pub self : (x : p.At) → Alike x x
  pub back : (x y : p.At) → Alike x y → Alike y x
  pub through : (x y z : p.At) → Alike x y → Alike y z → Alike x z
  pub also : (x y : p.At) → Alike x y → (es : List (Act p.Message p.Result)) (u : p.At) → p.Branch x es u → (v : p.At) × p.Branch y es v × Alike u v
  pub received : (i : ℕ) (m : p.Message) (x y : p.At) → Alike x y → Alike (p.receive i m x) (p.receive i m y)

module _ (p : Party) (shows : List ℕ → p.At) (Alike : p.At → p.At → Type 0) where
  -- what a board in state s makes of one record
  pub data Made (s : List ℕ) (h : Handed) : Type 0 where
    took : (m : p.Message) → p.Means h m → AsParty p shows s h m (p.step s h) → Made s h
    passed : (m : p.Message) (q : ℕ) → p.Means h m → passed_over q ≡ true → Alike (p.receive h.from m (shows s)) (shows s)
        → p.step s h ≡ refused q 0 s h.out h.delivery → Made s h
    missed : (q a : ℕ) → p.NoMessage h q a → p.step s h ≡ refused q a s h.out h.delivery → Made s h

  -- Fit: the states that the board can be in; Fine: what can be handed over
  module _ (l : Likeness p Alike) (Fit : List ℕ → Type 0) (Fine : Handed → Type 0) (still : (s : List ℕ) → Fit s → Still p.Branch (shows s))
      (stays : (s : List ℕ) → Fit s → (h : Handed) → Fine h → Fit (p.step s h).state) (makes : (s : List ℕ) → Fit s → (h : Handed) → Fine h → Made s h) where
    also_fires : (x y : p.At) → Alike x y → (es : List (Act p.Message p.Result)) (u : p.At) → Fires p.Branch x es u
        → (v : p.At) × Fires p.Branch y es v × Alike u v
    also_fires = fires_alike p.Branch Alike l.back l.also

    -- one record: x is alike the party that the state s shows, and the rest is a run from any party that is alike the one then
    module _ (s : List ℕ) (fit : Fit s) (h : Handed) (hs : List Handed) (x : p.At) (like : Alike (shows s) x)
        (rest : (y : p.At) → Alike (shows (p.step s h).state) y → Run p y (p.step s h).state hs) where
      -- the state stays
      goes_on : (q a : ℕ) → p.step s h ≡ refused q a s h.out h.delivery → (y : p.At) → Alike (shows s) y → Run p y s hs
      goes_on q a e y = subst (λ (v : List ℕ). (Alike (shows v) y → Run p y v hs)) (ap (λ z. z.state) e) (rest y)

      by_made : Made s h → Run p x s (h ∷ hs)
      by_made (took m means g) =
          let alike = l.received h.from m (shows s) x like in
          let (y, fires, then) = also_fires _ _ alike g.events (shows (p.step s h).state) g.fires in
          takes means fires (λ fs z f. let (w, f', k) = also_fires _ _ (l.back _ _ alike) fs z f in (g.only fs w f').0) g.answer (rest y then)
      by_made (passed m q means number idle e) =
          let alike = l.received h.from m (shows s) x like in
          let same = l.through (shows s) _ _ (l.back _ _ idle) alike in
          passes means number (still_alike p.Branch Alike l.back l.also (shows s) _ same (still s fit)) e (goes_on q 0 e _ same)
      by_made (missed q a none_there e) = misses none_there e (goes_on q a e x like)

    pub runs : (hs : List Handed) → All Fine hs → (s : List ℕ) → Fit s → (x : p.At) → Alike (shows s) x → Run p x s hs
    runs [] g s fit x like = ends
    runs (h ∷ hs) g s fit x like =
        by_made s fit h hs x like (λ y a. runs hs g.1 (p.step s h).state (stays s fit h g.0) y a) (makes s fit h g.0)
