-- What a step puts out and delivers, as acts of a party: at most one message, then at most one output.
use mathlib.Core.Path.{◌≡◌, refl}
use Prim.Native.Nat.{ℕ}
use mathlib.Core.List.{List, [], ◌∷◌, ◌++◌, append-nil}
use mathlib.Core.Bool.{Bool, true, false}
use mathlib.Core.Option.{Option}
use lib.ListN.{length}
use Rattle.octets.specs.Bytes.{pick, put}
use Rattle.deliver.specs.Delivered.{Left}
use Rattle.board_step.specs.Step.{outcome, stepped, delivered}
use Rattle.figure.specs.Acts.{Act, sends, outputs, sent_by, output_by, answered}

module _ {M R : Type 0} where
  -- m is sent, x is output, if the test holds
  abbrev pub send_if : Bool → M → List (Act M R)
  send_if c m = pick c (sends m ∷ []) []

  abbrev pub output_if : Bool → R → List (Act M R)
  output_if c x = pick c (outputs x ∷ []) []

  module _ (as_record : M → List ℕ) (as_delivery : R → Option (List ℕ)) where
    pub word_sent : (a c : Bool) (m : M) (x : R) → sent_by as_record as_delivery (send_if a m ++ output_if c x) ≡ pick a (as_record m) []
    unfolding pick
    word_sent true true m x = append-nil (as_record m)
    word_sent true false m x = append-nil (as_record m)
    word_sent false true m x = refl
    word_sent false false m x = refl

    pub word_output : (a c : Bool) (m : M) (x : R) (d : List ℕ) → output_by as_record as_delivery (send_if a m ++ output_if c x) d ≡ delivered c (as_delivery x) d
    unfolding pick delivered
    word_output true true m x d = refl
    word_output true false m x d = refl
    word_output false true m x d = refl
    word_output false false m x d = refl

    pub send_sent : (a : Bool) (m : M) → sent_by as_record as_delivery (send_if a m) ≡ pick a (as_record m) []
    unfolding pick
    send_sent true m = append-nil (as_record m)
    send_sent false m = refl

    pub send_output : (a : Bool) (m : M) (y : Option (List ℕ)) (d : List ℕ) → output_by as_record as_delivery (send_if a m) d ≡ delivered false y d
    unfolding pick delivered
    send_output true m y d = refl
    send_output false m y d = refl

    -- w is what is sent, x what is output
    pub answers : (es : List (Act M R)) (w : List ℕ) (x : Left) (s o d : List ℕ) → sent_by as_record as_delivery es ≡ w → output_by as_record as_delivery es d ≡ x
        → outcome (stepped (length w) x.kind x.size) s (put 0 w o) x.buffer ≡ answered as_record as_delivery es s o d
    unfolding answered
    answers es w x s o d e g = rw (e, g)
