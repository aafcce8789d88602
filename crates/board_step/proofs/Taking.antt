-- What a record that is taken gives to the functions that take it.
use mathlib.Core.Path.{◌≡◌, refl, sym, ap, fun_ext, ◌∙◌}
use Prim.Native.Nat.{ℕ, ◌-◌, ◌≤◌, ◌<◌}
use mathlib.Core.List.{List}
use mathlib.Core.Bool.{Bool, true, false, not, ◌&&◌, ◌||◌}
use native.Mathlib.Omega.{arith}
use borrow.Author.Tests.{leb-true}
use mathlib.Core.Option.{Option}
use lib.Dec.{leb, eqb}
use lib.Count.{ones}
use lib.ListN.{length}
use Rattle.octets.specs.Bytes.{pick, part, put, two_at}
use Rattle.octets.specs.Sets.{has}
use Rattle.octets.proofs.Laws.{length_put}
use Rattle.octets.proofs.Picks.{and_l, and_r}
use Rattle.table.specs.Table.{limits, k_of, s_max}
use Rattle.table.specs.declared.Table.{Table}
use Rattle.table.proofs.Within.{within, s_max_le, board_number}
use Rattle.record.proofs.Facts.{whole}
use Rattle.record.proofs.PartLaws.{fragment_most}
use Rattle.state.specs.State.{fixed_bytes, State, view, table_of, marks_of, marks_bytes, len_at, echo_at, fragment_at}
use Rattle.state.specs.Sound.{usable_ok, length_ok, board_ok, naming}
use Rattle.state.specs.declared.Marks.{Marks}
use Rattle.state.proofs.Facts.{sound_limits}
use Rattle.state.proofs.Writes.{rest_kept, fragment_kept, marks_back}
use Rattle.board.specs.Stepped.{record_root, marked, kept, won, enough_usable, voted_now, output_now, ends_now, with_flags, settled_to, leaves, KeptRoom}
use Rattle.board.proofs.Taken.{Taken, not_done, fragment_room}
use Rattle.board.proofs.KeptLaws.{kept_length, left_table}
use Rattle.board.proofs.StepSound.{fit, settled_sounds}
use Rattle.std.specs.Prelude as P
use Rattle.std.specs.Prelude.{None}
use Rattle.deliver.specs.declared.Delivery.{Delivery}
use Rattle.deliver.specs.Delivered.{kind_of, size_of, left, result_of}
use Rattle.board_step.specs.Asked.{Formed, Deliverable}
use Rattle.board_step.specs.Step.{stepped, outcome, good, put_out, said_by, usable_for, kept_of, result_in, delivered, taken_of}

-- of a usable echo the length kept is from 1 to max
length_in : (u e : Bool) (l max : ℕ) → ((not u || e) && pick e (leb 1 l && leb l max) (eqb l 0)) ≡ true → u ≡ true → (1 ≤ l) × (l ≤ max)
unfolding pick
length_in true true l max h g = (leb-true 1 l (and_l (leb 1 l) (leb l max) h), leb-true l max (and_r (leb 1 l) (leb l max) h))
length_in true false l max h g = absurd (let z : ◌≡◌ {A = ℕ} 0 1 = cc in omega arith)
length_in false e l max h g = absurd (let z : ◌≡◌ {A = ℕ} 0 1 = cc in omega arith)

-- a board that is not done is done if it ends now
done_now : (k i : ℕ) (ok : Bool) (m : Marks) → m.done ≡ false → (b : Table) (word : Bool) (s root : List ℕ)
    → (settled_to b word (marked k i ok m) s root).done ≡ ends_now b word (marked k i ok m) s root
unfolding settled_to with_flags marked
done_now k i ok m e b word s root = rw e

voted_now_lem : (b : Table) (word : Bool) (m : Marks) (s root : List ℕ) → (settled_to b word m s root).voted ≡ voted_now b word m s root
unfolding settled_to with_flags
voted_now_lem b word m s root = refl

module _ (s : List ℕ) (from : ℕ) (r o d : List ℕ) (k p f : ℕ) (t : Taken s from r o d k p f) where
  pub formed : Formed r p f
  formed = let w = whole r k p f t.form in record { nodes = w.nodes; short = fragment_most k f w.fragment_ok_lem; ends = w.ends }

  pub limited : limits (table_of s) ≡ true
  limited = sound_limits (view s) t.sound

  pub number : from - 1 < 64
  number = let w = within (table_of s) limited in let (one, few) = board_number (table_of s) from t.board in omega (arith, w.few)

  pub has_room : KeptRoom s r (s_max (table_of s)) (from - 1) p f
  has_room = record {
    board = number;
    most = s_max_le (table_of s) (within (table_of s) limited);
    long = t.long;
    fragment = fragment_room (table_of s) from f (length s) t.board t.allowed.short t.room;
    nodes = formed.nodes;
    ends = formed.ends;
  }

  pub long_still : fixed_bytes ≤ length (kept (s_max (table_of s)) k (from - 1) p f r s)
  long_still = rw (kept_length (s_max (table_of s)) k (from - 1) p f r s) t.long

  module _ (ok : Bool) where
    abbrev b : Table
    b = table_of s

    abbrev m : Marks
    m = marked k (from - 1) ok (marks_of s)

    abbrev s1 : List ℕ
    s1 = kept (s_max b) k (from - 1) p f r s

    abbrev word : Bool
    word = not (eqb k 1)

    enough_now : ends_now b word m s1 (record_root r) ≡ true → enough_usable b m s1 (record_root r) ≡ true
    unfolding ends_now
    enough_now e =
        and_r (won b m s1 (record_root r)) (enough_usable b m s1 (record_root r))
        (and_r (output_now b word m s1 (record_root r)) _ (and_r word _ e))

    lengths_now : (i : ℕ) → i < 64 → has m.usable i ≡ true → (1 ≤ two_at s1 (len_at i)) × (two_at s1 (len_at i) ≤ s_max b)
    unfolding settled_to with_flags board_ok usable_ok length_ok
    lengths_now i h u = length_in (has m.usable i) (has m.echoes i) (two_at s1 (len_at i)) (s_max b) ((settled_sounds s from r o d ok k p f t).boards i h) u

    pub deliverable : Deliverable b m s1 r d (settled_to b word m s1 (record_root r)).done
    deliverable = record {
      lim = limited;
      room = rw (kept_length (s_max b) k (from - 1) p f r s) t.room;
      root = let w = formed in omega (arith, w.ends);
      longest = t.delivery;
      due = λ e. enough_now (sym (done_now k (from - 1) ok (marks_of s) (not_done t) b word s1 (record_root r)) ∙ e);
      lengths = lengths_now;
    }

-- what keeping a record leaves, and what is then put out
said : (s : List ℕ) (from : ℕ) (r : List ℕ) (k p f : ℕ) (ok v : Bool)
    → v ≡ voted_now (table_of s) (not (eqb k 1)) (marked k (from - 1) ok (marks_of s)) (kept (s_max (table_of s)) k (from - 1) p f r s) (record_root r)
    → put_out (eqb k 1 && ok) (not (marked k (from - 1) ok (marks_of s)).voted && v) p f r ≡ said_by ok k p f from r s
unfolding said_by
said s from r k p f ok v e = rw e

pub keeps : (s : List ℕ) (from : ℕ) (r o : List ℕ) (k p f : ℕ) (ok : Bool) (after : Marks) (s1 s2 o2 : List ℕ) (len : ℕ)
    → s1 ≡ kept (s_max (table_of s)) k (from - 1) p f r s
    → after ≡ settled_to (table_of s) (not (eqb k 1)) (marked k (from - 1) ok (marks_of s)) s1 (record_root r)
    → s2 ≡ put 6 (marks_bytes after) s1
    → len ≡ length (put_out (eqb k 1 && ok) (not (marked k (from - 1) ok (marks_of s)).voted && after.voted) p f r)
    → o2 ≡ put 0 (put_out (eqb k 1 && ok) (not (marked k (from - 1) ok (marks_of s)).voted && after.voted) p f r) o
    → (s2 ≡ leaves ok k p f from r s) × (len ≡ length (said_by ok k p f from r s)) × (o2 ≡ put 0 (said_by ok k p f from r s) o)
unfolding leaves
keeps s from r o k p f ok after s1 s2 o2 len es ea ew el eo =
    let b = table_of s in
    let word = not (eqb k 1) in
    let m = marked k (from - 1) ok (marks_of s) in
    let ev : after.voted ≡ voted_now b word m (kept (s_max b) k (from - 1) p f r s) (record_root r)
    = ap (λ (y : Marks). y.voted) ea ∙ voted_now_lem b word m s1 (record_root r) ∙ ap (λ (l : List ℕ). voted_now b word m l (record_root r)) es in
    let z = said s from r k p f ok after.voted ev in
    (rw (← es, ← ea) ew, rw z at el, rw z at eo)

module _ (b : Table) (m after : Marks) (s : List ℕ) (same_set : after.usable ≡ m.usable) where
  abbrev written : List ℕ
  written = put 6 (marks_bytes after) s

  roots_still : ◌≡◌ {A = ℕ → List ℕ} (λ j. part (echo_at j) 32 written) (λ j. part (echo_at j) 32 s)
  roots_still = ap (λ (v : State). v.echo_root) (rest_kept after s b m)

  length_at : (i : ℕ) → two_at written (len_at i) ≡ two_at s (len_at i)
  length_at i = ap (λ (v : State). v.len i) (rest_kept after s b m)

  kept_still : (max i : ℕ) → kept_of max written i ≡ kept_of max s i
  unfolding kept_of
  kept_still max i = rw (length_at (i - 1)) (fragment_kept after s (fragment_at max (i - 1)) (two_at s (len_at (i - 1))) (omega arith))

  naming_still : (root : List ℕ) → naming b.n after.usable (λ j. part (echo_at j) 32 written) root ≡ naming b.n m.usable (λ j. part (echo_at j) 32 s) root
  naming_still root =
      ap (λ (u : ℕ). naming b.n u (λ j. part (echo_at j) 32 written) root) same_set
      ∙ ap (λ (g : ℕ → List ℕ). naming b.n m.usable g root) roots_still

  usable_still : (root : List ℕ) → usable_for b after written root ≡ usable_for b m s root
  unfolding usable_for
  usable_still root = naming_still root

  -- the marks play no part in what is delivered, but for the usable echoes
  result_still : (root : List ℕ) → result_in b after written root ≡ result_in b m s root
  unfolding result_in
  result_still root = rw (usable_still root) (ap (λ (g : ℕ → List ℕ). result_of b root (usable_for b m s root) g) (fun_ext (kept_still (s_max b))))

  enough_still : (root : List ℕ) → enough_usable b m s root ≡ true → enough_usable b after written root ≡ true
  unfolding enough_usable
  enough_still root e = ap (λ (x : ℕ). leb (k_of b) (ones x)) (naming_still root) ∙ e

  deliverable_still : (r d : List ℕ) (ends : Bool) → Deliverable b m s r d ends → Deliverable b after written r d ends
  deliverable_still r d ends h = record {
    lim = h.lim;
    room = rw (length_put 6 (marks_bytes after) s) h.room;
    root = h.root;
    longest = h.longest;
    due = λ e. enough_still (record_root r) (h.due e);
    lengths = λ i l u. rw (length_at i) (h.lengths i l (rw same_set at u));
  }

-- no delivery, where none is due
pub none_due : (done : Bool) (result : Option (List ℕ)) (d : List ℕ) → done ≡ false → left None d ≡ delivered done result d
unfolding delivered pick
none_due done result d e = rw e

module _ (s : List ℕ) (from : ℕ) (r o d : List ℕ) (k p f : ℕ) (t : Taken s from r o d k p f) (ok : Bool) where
  -- what was kept, and the marks once all that is due is done
  abbrev bytes : List ℕ
  bytes = kept (s_max (table_of s)) k (from - 1) p f r s

  abbrev before : Marks
  before = marked k (from - 1) ok (marks_of s)

  abbrev after : Marks
  after = settled_to (table_of s) (not (eqb k 1)) before bytes (record_root r)

  same_usable : after.usable ≡ before.usable
  unfolding settled_to with_flags
  same_usable = refl

  pub marks_left : marks_of (leaves ok k p f from r s) ≡ after
  unfolding leaves
  marks_left = marks_back after bytes (long_still s from r o d k p f t) (fit (table_of s) after bytes (settled_sounds s from r o d ok k p f t))

  -- what delivering from the state that is left asks for
  pub done_asks : (s2 : List ℕ) → s2 ≡ leaves ok k p f from r s
      → (fixed_bytes ≤ length s2) × Deliverable (table_of s2) (marks_of s2) s2 r d (marks_of s2).done
  unfolding leaves
  done_asks s2 e =
      rw (e, marks_left, left_table ok k p f from r s) (
        rw (length_put 6 (marks_bytes after) bytes) (long_still s from r o d k p f t),
        deliverable_still (table_of s) before after bytes same_usable r d after.done (deliverable s from r o d k p f t ok),
      )

  result_left : (s2 d2 : List ℕ) (x : P.Option Delivery) → s2 ≡ leaves ok k p f from r s
      → left x d2 ≡ delivered (marks_of s2).done (result_in (table_of s2) (marks_of s2) s2 (record_root r)) d
      → left x d2 ≡ delivered (ends_now (table_of s) (not (eqb k 1)) before bytes (record_root r)) (result_in (table_of s) before bytes (record_root r)) d
  unfolding leaves
  result_left s2 d2 x es ex =
      let e1 : (marks_of s2).done ≡ ends_now (table_of s) (not (eqb k 1)) before bytes (record_root r)
      = rw (es, marks_left) (done_now k (from - 1) ok (marks_of s) (not_done t) (table_of s) (not (eqb k 1)) bytes (record_root r)) in
      let e2 : result_in (table_of s2) (marks_of s2) s2 (record_root r) ≡ result_in (table_of s) before bytes (record_root r)
      = rw (es, marks_left, left_table ok k p f from r s) (result_still (table_of s) before after bytes same_usable (record_root r)) in
      ex ∙ rw (e2, e1)

  -- what the functions leave, one after the other, is what the definition says; w is the buffer that was written, o the one of the plan
  pub takes : (w s2 o2 d2 : List ℕ) (len : ℕ) (x : P.Option Delivery)
      → ok ≡ good k p f from r s
      → s2 ≡ leaves ok k p f from r s
      → len ≡ length (said_by ok k p f from r s)
      → o2 ≡ put 0 (said_by ok k p f from r s) w
      → left x d2 ≡ delivered (marks_of s2).done (result_in (table_of s2) (marks_of s2) s2 (record_root r)) d
      → outcome (stepped len (kind_of x) (size_of x)) s2 o2 d2 ≡ taken_of k p f s from r w d
  unfolding taken_of said_by
  takes w s2 o2 d2 len x ey es el eo ex = rw (← ey, ← result_left s2 d2 x es ex, ← es, ← el, ← eo)
