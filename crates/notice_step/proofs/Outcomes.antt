-- What holds of every step, start and sender's record of notices: a refusal writes nothing, the promises fix one outcome, what is left is sound.
use mathlib.Core.Path.{◌≡◌, refl, sym, ap, ◌∙◌}
use Prim.Native.Nat.{ℕ}
use mathlib.Core.Logic.{◌⊎◌, inl, inr}
use mathlib.Core.List.{List}
use mathlib.Core.Bool.{true}
use native.Mathlib.Omega.{arith}
use lib.ListN.{length}
use Rattle.refusal.specs.declared.Sized.{Sized}
use Rattle.octets.proofs.Laws.{length_put}
use Rattle.table.specs.declared.Table.{Table}
use Rattle.board.specs.Planned.{Plan, Refuse, Take}
use Rattle.board.specs.Started.{begun}
use Rattle.board.proofs.Taken.{Listed, listed_between}
use Rattle.board_send.specs.Sent.{send_out}
use Rattle.board_step.specs.declared.Stepped.{Stepped}
use Rattle.board_step.specs.Step.{outcome, refused}
use Rattle.board_step.proofs.Outcomes.{delivered_length}
use Rattle.notice.specs.State.{notice_table, notice_own, notice_view}
use Rattle.notice.specs.Sound.{notice_sound}
use Rattle.notice_step.specs.Planned.{notice_plan}
use Rattle.notice_step.specs.Step.{notice_taken, notice_by_plan, notice_step_of}
use Rattle.notice_step.specs.Started.{notice_start_of}
use Rattle.notice_step.specs.Sent.{notice_send_of}
use Rattle.notice_step.proofs.Taken.{notice_taken_lem, notice_listed}
use Rattle.notice_step.proofs.Leaves.{leaves_length, leaves_table, leaves_own}
use Rattle.notice_step.proofs.Stays.{leaves_sound}

module _ (s : List ℕ) (from : ℕ) (r o d : List ℕ) where
  keeps : (x : Plan) → ((notice_by_plan x s from r o d).answer.number ≡ 0 → ⊥)
      → notice_by_plan x s from r o d ≡ refused (notice_by_plan x s from r o d).answer.number (notice_by_plan x s from r o d).answer.offset s o d
  unfolding notice_by_plan notice_taken
  keeps (Refuse q a) h = refl
  keeps (Take k p f) h = absurd (h refl)

  -- "a refusal returns its number with zeros for every other result and writes nothing"; a fault of the record's form has its offset beside it
  pub notice_refusal_keeps : ((notice_step_of s from r o d).answer.number ≡ 0 → ⊥)
      → notice_step_of s from r o d ≡ refused (notice_step_of s from r o d).answer.number (notice_step_of s from r o d).answer.offset s o d
  unfolding notice_step_of
  notice_refusal_keeps = keeps (notice_plan s from r o d)

  offsets : (x : Plan) → notice_plan s from r o d ≡ x
      → (((notice_by_plan x s from r o d).answer.number ≡ 0) × ((notice_by_plan x s from r o d).answer.offset ≡ 0))
      ⊎ Listed (length r) (notice_by_plan x s from r o d).answer.number (notice_by_plan x s from r o d).answer.offset
  unfolding notice_by_plan notice_taken
  offsets (Refuse q a) e = inr (notice_listed s from r o d q a e)
  offsets (Take k p f) e = inl (refl, refl)

  -- "with every other answer the offset is 0": beside 20 to 25 it is at most the record's length
  pub notice_offset_placed : (((notice_step_of s from r o d).answer.number ≡ 0) × ((notice_step_of s from r o d).answer.offset ≡ 0))
      ⊎ Listed (length r) (notice_step_of s from r o d).answer.number (notice_step_of s from r o d).answer.offset
  unfolding notice_step_of
  notice_offset_placed = offsets (notice_plan s from r o d) refl

  -- the promise of a step fixes its answer and every buffer
  pub notice_step_one : (x y : Stepped) (sx ox dx sy oy dy : List ℕ) → outcome x sx ox dx ≡ notice_step_of s from r o d
      → outcome y sy oy dy ≡ notice_step_of s from r o d → (x ≡ y) × (sx ≡ sy) × (ox ≡ oy) × (dx ≡ dy)
  notice_step_one x y sx ox dx sy oy dy e g =
      let z = e ∙ sym g in
      (ap (λ w. w.answer) z, ap (λ w. w.state) z, ap (λ w. w.out) z, ap (λ w. w.delivery) z)

  sound_by : (x : Plan) → notice_plan s from r o d ≡ x → (notice_by_plan x s from r o d).answer.number ≡ 0
      → notice_sound (notice_view (notice_by_plan x s from r o d).state) ≡ true
  unfolding notice_by_plan notice_taken
  sound_by (Refuse q a) e h = absurd (omega (arith, (listed_between (notice_listed s from r o d q a e)).0, h))
  sound_by (Take k p f) e h = leaves_sound (notice_taken_lem s from r o d k p f e)

  -- "whatever state .. a step leaves is sound"
  pub notice_step_sound : (notice_step_of s from r o d).answer.number ≡ 0 → notice_sound (notice_view (notice_step_of s from r o d).state) ≡ true
  unfolding notice_step_of
  notice_step_sound = sound_by (notice_plan s from r o d) refl

-- what a step leaves in the buffers s, o and d: table, own number, lengths and soundness stay
pub record NoticeStays (s o d s2 o2 d2 : List ℕ) : Type 0 where
  pub table : notice_table s2 ≡ notice_table s
  pub own : notice_own s2 ≡ notice_own s
  pub size : length s2 ≡ length s
  pub out : length o2 ≡ length o
  pub delivery : length d2 ≡ length d
  pub still_sound : notice_sound (notice_view s2) ≡ true

module _ (s : List ℕ) (from : ℕ) (r o d : List ℕ) (so : notice_sound (notice_view s) ≡ true) where
  stays_by : (x : Plan) → notice_plan s from r o d ≡ x
      → NoticeStays s o d (notice_by_plan x s from r o d).state (notice_by_plan x s from r o d).out (notice_by_plan x s from r o d).delivery
  unfolding notice_by_plan notice_taken
  stays_by (Refuse q a) e = record { table = refl; own = refl; size = refl; out = refl; delivery = refl; still_sound = so }
  stays_by (Take k p f) e =
      let t = notice_taken_lem s from r o d k p f e in
      record {
        table = leaves_table t;
        own = leaves_own t;
        size = leaves_length t;
        out = length_put 0 _ o;
        delivery = delivered_length _ _ d;
        still_sound = leaves_sound t;
      }

  pub notice_stays : NoticeStays s o d (notice_step_of s from r o d).state (notice_step_of s from r o d).out (notice_step_of s from r o d).delivery
  unfolding notice_step_of
  notice_stays = stays_by (notice_plan s from r o d) refl

-- the promise of a start fixes its answer and the state, that of the sender's record its answer and the buffer
pub notice_start_one : (b : Table) (own : ℕ) (s : List ℕ) (x y : ℕ) (sx sy : List ℕ) → begun x sx ≡ notice_start_of b own s
    → begun y sy ≡ notice_start_of b own s → (x ≡ y) × (sx ≡ sy)
notice_start_one b own s x y sx sy e g = let z = e ∙ sym g in (ap (λ w. w.number) z, ap (λ w. w.state) z)

pub notice_send_one : (b : Table) (notice : List ℕ) (to : ℕ) (out : List ℕ) (x y : Sized) (ox oy : List ℕ) → send_out x ox ≡ notice_send_of b notice to out
    → send_out y oy ≡ notice_send_of b notice to out → (x ≡ y) × (ox ≡ oy)
notice_send_one b notice to out x y ox oy e g = let z = e ∙ sym g in (ap (λ w. w.answer) z, ap (λ w. w.out) z)
