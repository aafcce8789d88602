-- What holds of every step: a refusal writes nothing, the promises fix one outcome, what is left is sound, and what is put out is a record.
use mathlib.Core.Path.{◌≡◌, refl, sym, ap, ◌∙◌}
use Prim.Native.Nat.{ℕ, ◌-◌, ◌≤◌}
use mathlib.Core.Logic.{◌⊎◌, inl, inr}
use mathlib.Core.List.{List, []}
use mathlib.Core.Bool.{Bool, true, false, not, ◌&&◌}
use mathlib.Core.Option.{Option, none, some}
use native.Mathlib.Omega.{arith}
use borrow.Author.Tests.{eqb-true}
use lib.Dec.{eqb}
use lib.ListN.{length}
use Rattle.octets.specs.Bytes.{pick, part, put}
use Rattle.octets.proofs.Frame.{part_in}
use Rattle.octets.proofs.Laws.{length_put}
use Rattle.octets.proofs.Picks.{and_l}
use Rattle.table.specs.Table.{s_max}
use Rattle.table.specs.declared.Table.{Table}
use Rattle.record.specs.Form.{Form, is_kind, nodes_most, fragment_ok, parse, record_of}
use Rattle.record.proofs.Facts.{whole}
use Rattle.record.proofs.Round.{read_back}
use Rattle.state.specs.State.{view, table_of, own_of, marks_of}
use Rattle.state.specs.Sound.{sound}
use Rattle.state.specs.declared.Marks.{Marks}
use Rattle.board.specs.Planned.{Plan, Refuse, Take, plan_of}
use Rattle.board.specs.Started.{begun, start_of}
use Rattle.board.specs.Stepped.{record_root, record_path, record_fragment, marked, kept, voted_now}
use Rattle.board.proofs.Taken.{Taken, taken, Listed, listed, listed_between}
use Rattle.board.proofs.KeptLaws.{left_table, left_own, left_length}
use Rattle.board.proofs.StepSound.{step_sound}
use Rattle.deliver.specs.Delivered.{left_by}
use Rattle.board_step.specs.declared.Stepped.{Stepped}
use Rattle.board_step.specs.Asked.{Formed}
use Rattle.board_step.specs.Step.{outcome, refused, good, put_out, delivered, said_by, taken_of, by_plan, step_of}
use Rattle.board_step.proofs.Records.{root_length, path_length, fragment_length, said_room, room_most}
use Rattle.board_step.proofs.Taking.{formed}

module _ (s : List ℕ) (from : ℕ) (r o d : List ℕ) where
  keeps : (x : Plan) → ((by_plan x s from r o d).answer.number ≡ 0 → ⊥) → by_plan x s from r o d ≡ refused (by_plan x s from r o d).answer.number (by_plan x s from r o d).answer.offset s o d
  unfolding by_plan taken_of said_by
  keeps (Refuse q a) h = refl
  keeps (Take k p f) h = absurd (h refl)

  -- "a refusal returns its number with zeros for every other result and writes nothing"
  pub refusal_keeps : ((step_of s from r o d).answer.number ≡ 0 → ⊥) → step_of s from r o d ≡ refused (step_of s from r o d).answer.number (step_of s from r o d).answer.offset s o d
  unfolding step_of
  refusal_keeps = keeps (plan_of s from r o d)

  offsets : (x : Plan) → plan_of s from r o d ≡ x
      → (((by_plan x s from r o d).answer.number ≡ 0) × ((by_plan x s from r o d).answer.offset ≡ 0))
      ⊎ Listed (length r) (by_plan x s from r o d).answer.number (by_plan x s from r o d).answer.offset
  unfolding by_plan taken_of said_by
  offsets (Refuse q a) e = inr (listed s from r o d q a e)
  offsets (Take k p f) e = inl (refl, refl)

  -- "with every other answer the offset is 0": beside 20 to 25 it is at most the record's length
  pub offset_placed : (((step_of s from r o d).answer.number ≡ 0) × ((step_of s from r o d).answer.offset ≡ 0))
      ⊎ Listed (length r) (step_of s from r o d).answer.number (step_of s from r o d).answer.offset
  unfolding step_of
  offset_placed = offsets (plan_of s from r o d) refl

  -- the promise of a step fixes its answer and every buffer
  pub step_one : (x y : Stepped) (sx ox dx sy oy dy : List ℕ) → outcome x sx ox dx ≡ step_of s from r o d → outcome y sy oy dy ≡ step_of s from r o d
      → (x ≡ y) × (sx ≡ sy) × (ox ≡ oy) × (dx ≡ dy)
  step_one x y sx ox dx sy oy dy e g =
      let z = e ∙ sym g in
      (ap (λ w. w.answer) z, ap (λ w. w.state) z, ap (λ w. w.out) z, ap (λ w. w.delivery) z)

  sound_by : (x : Plan) → plan_of s from r o d ≡ x → (by_plan x s from r o d).answer.number ≡ 0 → sound (view (by_plan x s from r o d).state) ≡ true
  unfolding by_plan taken_of said_by
  sound_by (Refuse q a) e h = absurd (omega (arith, (listed_between (listed s from r o d q a e)).0, h))
  sound_by (Take k p f) e h = step_sound s from r o d (good k p f from r s) k p f e

  -- "whatever state .. a step leaves is sound"
  pub step_leaves_sound : (step_of s from r o d).answer.number ≡ 0 → sound (view (step_of s from r o d).state) ≡ true
  unfolding step_of
  step_leaves_sound = sound_by (plan_of s from r o d) refl

-- ---- table, own number, lengths and soundness stay

pub delivered_length : (e : Bool) (x : Option (List ℕ)) (d : List ℕ) → length (delivered e x d).buffer ≡ length d
unfolding delivered left_by pick
delivered_length false x d = refl
delivered_length true none d = refl
delivered_length true (some m) d = length_put 0 m d

-- what a step leaves in the buffers s, o and d
pub record Stays (s o d s2 o2 d2 : List ℕ) : Type 0 where
  pub table : table_of s2 ≡ table_of s
  pub own : own_of s2 ≡ own_of s
  pub size : length s2 ≡ length s
  pub out : length o2 ≡ length o
  pub delivery : length d2 ≡ length d
  pub still_sound : sound (view s2) ≡ true

module _ (s : List ℕ) (from : ℕ) (r o d : List ℕ) (so : sound (view s) ≡ true) where
  stays_by : (x : Plan) → plan_of s from r o d ≡ x → Stays s o d (by_plan x s from r o d).state (by_plan x s from r o d).out (by_plan x s from r o d).delivery
  unfolding by_plan taken_of said_by
  stays_by (Refuse q a) e = record { table = refl; own = refl; size = refl; out = refl; delivery = refl; still_sound = so }
  stays_by (Take k p f) e =
      let ok = good k p f from r s in
      record {
        table = left_table ok k p f from r s;
        own = left_own ok k p f from r s;
        size = left_length ok k p f from r s;
        out = length_put 0 _ o;
        delivery = delivered_length _ _ d;
        still_sound = step_sound s from r o d ok k p f e;
      }

  pub stays : Stays s o d (step_of s from r o d).state (step_of s from r o d).out (step_of s from r o d).delivery
  unfolding step_of
  stays = stays_by (plan_of s from r o d) refl

-- the promise of a start fixes its answer and the state
pub start_one : (b : Table) (own : ℕ) (s : List ℕ) (x y : ℕ) (sx sy : List ℕ) → begun x sx ≡ start_of b own s → begun y sy ≡ start_of b own s → (x ≡ y) × (sx ≡ sy)
start_one b own s x y sx sy e g = let z = e ∙ sym g in (ap (λ w. w.number) z, ap (λ w. w.state) z)

-- the record put out, w: none, "an echo with the same root, path and fragment", or "a vote for it"; it is of the form of a record
pub data Meant (r : List ℕ) (p f : ℕ) : List ℕ → Type 0 where
  nothing : Meant r p f []
  echo : parse (record_of 2 (record_root r) p (record_path p r) (record_fragment p f r)) ≡ Form 2 p f → Meant r p f (record_of 2 (record_root r) p (record_path p r) (record_fragment p f r))
  vote : parse (record_of 3 (record_root r) 0 [] []) ≡ Form 3 0 0 → Meant r p f (record_of 3 (record_root r) 0 [] [])

-- w stands at the front of the outgoing buffer, which is o else, and len is its length
pub record Put (r : List ℕ) (p f : ℕ) (o : List ℕ) (len : ℕ) (out w : List ℕ) : Type 0 where
  pub meant : Meant r p f w
  pub size : len ≡ length w
  pub rest : out ≡ put 0 w o
  pub front : part 0 len out ≡ w

fragment_alike : (f : ℕ) → fragment_ok 1 f ≡ true → fragment_ok 2 f ≡ true
unfolding fragment_ok pick
fragment_alike f e = e

module _ (r : List ℕ) (p f : ℕ) (h : Formed r p f) where
  echo_reads : fragment_ok 1 f ≡ true → parse (record_of 2 (record_root r) p (record_path p r) (record_fragment p f r)) ≡ Form 2 p f
  unfolding is_kind nodes_most pick
  echo_reads e =
      let l : length (record_fragment p f r) ≡ f = fragment_length r p f h in
      rw l at (read_back 2 p (record_root r) (record_path p r) (record_fragment p f r) refl (root_length r p f h) h.nodes (omega arith) (path_length r p f h)
      (rw l (fragment_alike f e)) (omega arith))

  vote_reads : parse (record_of 3 (record_root r) 0 [] []) ≡ Form 3 0 0
  unfolding is_kind nodes_most fragment_ok pick
  vote_reads = read_back 3 0 (record_root r) [] [] refl (root_length r p f h) (omega arith) (omega arith) refl refl (omega arith)

  meant_by : (e v : Bool) → (e ≡ true → fragment_ok 1 f ≡ true) → Meant r p f (put_out e v p f r)
  unfolding put_out pick
  meant_by true v g = echo (echo_reads (g refl))
  meant_by false true g = vote vote_reads
  meant_by false false g = nothing

-- what was put out stands at the front of the buffer
pub front_of : (w o : List ℕ) → length w ≤ length o → part 0 (length w) (put 0 w o) ≡ w
front_of w o h = part_in 0 w o (omega arith)

module _ (s : List ℕ) (from : ℕ) (r o d : List ℕ) (k p f : ℕ) where
  abbrev echoes : Bool
  echoes = eqb k 1 && good k p f from r s

  abbrev m : Marks
  m = marked k (from - 1) (good k p f from r s) (marks_of s)

  abbrev votes : Bool
  votes = not m.voted && voted_now (table_of s) (not (eqb k 1)) m (kept (s_max (table_of s)) k (from - 1) p f r s) (record_root r)

  sent : Taken s from r o d k p f → echoes ≡ true → fragment_ok 1 f ≡ true
  sent t e = let z : k ≡ 1 = eqb-true k 1 (and_l (eqb k 1) _ e) in rw z at (whole r k p f t.form).fragment_ok_lem

  put_by : Taken s from r o d k p f → (w : List ℕ) × Put r p f o (taken_of k p f s from r o d).answer.record_length (taken_of k p f s from r o d).out w
  unfolding taken_of said_by
  put_by t =
      let h = formed s from r o d k p f t in (
        put_out echoes votes p f r,
        record {
          meant = meant_by r p f h echoes votes (sent t);
          size = refl;
          rest = refl;
          front = front_of (put_out echoes votes p f r) o (omega (arith, said_room r p f h k (good k p f from r s) votes, room_most k, t.out));
        },
      )

  -- "the length of the record put out (0 for none; at most one per step ..)": the bytes of that one record stand at the front of the buffer
  pub put_out_lem : plan_of s from r o d ≡ Take k p f → (w : List ℕ) × Put r p f o (step_of s from r o d).answer.record_length (step_of s from r o d).out w
  unfolding step_of by_plan
  put_out_lem e = rw e (put_by (taken s from r o d k p f e))
