-- The promise of a mailbox fixes one thing, and leaves a sound state.
use mathlib.Core.Path.{◌≡◌, sym, ap, ◌∙◌}
use Prim.Native.Nat.{ℕ}
use mathlib.Core.List.{List}
use Rattle.board_mailbox.specs.declared.Mailed.{Mailed}
use Rattle.board_mailbox.specs.Emptied.{Emptied, emptied, mailbox_of}

-- the promise of a mailbox fixes its answer and every buffer
pub mailbox_one : (s box a e v d : List ℕ) (x y : Mailed) (sx ax ex vx dx sy ay ey vy dy : List ℕ)
    → emptied x sx ax ex vx dx ≡ mailbox_of s box a e v d → emptied y sy ay ey vy dy ≡ mailbox_of s box a e v d
    → (x ≡ y) × (sx ≡ sy) × (ax ≡ ay) × (ex ≡ ey) × (vx ≡ vy) × (dx ≡ dy)
mailbox_one s box a e v d x y sx ax ex vx dx sy ay ey vy dy f g =
    let z = f ∙ sym g in (
      ap (λ (w : Emptied). w.answer) z,
      ap (λ (w : Emptied). w.state) z,
      ap (λ (w : Emptied). w.answers) z,
      ap (λ (w : Emptied). w.echo) z,
      ap (λ (w : Emptied). w.vote) z,
      ap (λ (w : Emptied). w.delivery) z,
    )
