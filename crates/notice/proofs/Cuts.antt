-- Where a notice record is at fault: a fault is always 20, 21, 24 or 25, at a place in the record or at its end; a record that is cut short is 20, at
-- the field that holds the first byte missing; and one broadcast's record is 21 to the other's boards.
-- Assumes nothing.
use mathlib.Core.Path.{◌≡◌, refl, sym}
use mathlib.Core.Logic.{◌⊎◌, inl, inr}
use Prim.Native.Nat.{ℕ, ◌+◌, ◌≤◌, ◌<◌}
use mathlib.Core.List.{List, [], ◌∷◌}
use mathlib.Core.Bool.{Bool, true, false}
use native.Mathlib.Omega.{arith}
use borrow.Author.Tests.{le-leb, lt-leb, lt-ltb, le-ltb, ltb-true, ltb-false}
use lib.ListN.{length, get_or, take}
use lib.Seq.{get_or-take, length-take-le}
use lib.Dec.{leb, ltb}
use Rattle.octets.specs.Bytes.{pick, two_at}
use Rattle.octets.proofs.Picks.{and_off_l}
use Rattle.record.specs.Form.{Form, Fault, parse, is_kind}
use Rattle.record.proofs.Cuts.{Placed, need_placed, field_placed}
use Rattle.record.proofs.KindByte.{parse_high}
use Rattle.record.proofs.PartLaws.{kind_few}
use Rattle.notice.specs.Form.{is_notice_kind, notice_most, parse_notice}
use Rattle.notice.specs.Fields.{notice_field_at}
use Rattle.notice.proofs.Facts.{NoticeWhole, notice_whole, notice_kind_few}

-- ---- every fault is listed, and its place is in the record or at its end

-- the faults of a notice record
abbrev pub NoticeFault : ℕ → Type 0
NoticeFault why = (why ≡ 20) ⊎ ((why ≡ 21) ⊎ ((why ≡ 24) ⊎ (why ≡ 25)))

placed : (s : List ℕ) → Placed NoticeFault (length s) (parse_notice s)
unfolding parse_notice Placed
placed s =
    let cut : NoticeFault 20 = inl refl in
    need_placed NoticeFault cut s 0 1 _ (omega arith) (λ h.
    field_placed NoticeFault (length s) (is_notice_kind (get_or s 0 0)) 21 0 _ (inr (inl refl)) (omega arith) (λ _.
    need_placed NoticeFault cut s 1 2 _ h (λ g.
    field_placed NoticeFault (length s) (leb (two_at s 1) notice_most) 24 1 _ (inr (inr (inl refl))) h (λ _.
    need_placed NoticeFault cut s 3 (two_at s 1) _ g (λ l.
    field_placed NoticeFault (length s) (leb (length s) (3 + two_at s 1)) 25 (3 + two_at s 1) _ (inr (inr (inr refl))) l (λ _. tt))))))

pub notice_fault_placed : (s : List ℕ) (why at : ℕ) → parse_notice s ≡ Fault why at → NoticeFault why × (at ≤ length s)
unfolding Placed
notice_fault_placed s why at e = rw e at (placed s)

-- ---- a cut

module _ (s : List ℕ) (k p f c : ℕ) (e : parse_notice s ≡ Form k p f) (h : c < length s) where
  w : NoticeWhole s k p f
  w = notice_whole s k p f e

  len : length (take c s) ≡ c
  len = length-take-le c s (omega arith)

  byte : (i : ℕ) → i < c → get_or (take c s) i 0 ≡ get_or s i 0
  byte i l = get_or-take c s i 0 l

  count : 3 ≤ c → two_at (take c s) 1 ≡ f
  count l = rw (byte 1 (omega arith), byte 2 (omega arith)) w.count

  abbrev Names : Type 0
  Names = parse_notice (take c s) ≡ Fault 20 (notice_field_at c)

  in_kind : c < 1 → Names
  unfolding parse_notice notice_field_at pick
  in_kind l = rw (len, lt-leb (0 + 1) c l, lt-ltb c 1 l)

  in_count : 1 ≤ c → c < 3 → Names
  unfolding parse_notice notice_field_at pick
  in_count g l = rw (len, le-leb (0 + 1) c g, byte 0 g, w.kind, w.kind_ok, lt-leb (1 + 2) c l, le-ltb c 1 g, lt-ltb c 3 l)

  in_notice : 3 ≤ c → Names
  unfolding parse_notice notice_field_at pick
  in_notice g =
      rw (
        len,
        le-leb (0 + 1) c (omega arith),
        byte 0 (omega arith),
        w.kind,
        w.kind_ok,
        le-leb (1 + 2) c g,
        count g,
        le-leb f notice_most w.most,
        lt-leb (3 + f) c (omega (arith, w.ends)),
        le-ltb c 1 (omega arith),
        le-ltb c 3 g,
      )

  -- "a cut of a well-formed record at byte c names the field that holds c"
  pub notice_cut : Names
  notice_cut = kind (ltb c 1) refl
    where
      counted : 1 ≤ c → (b : Bool) → ltb c 3 ≡ b → Names
      counted g true q = in_count g (ltb-true c 3 q)
      counted g false q = in_notice (ltb-false c 3 q)

      kind : (b : Bool) → ltb c 1 ≡ b → Names
      kind true q = in_kind (ltb-true c 1 q)
      kind false q = counted (ltb-false c 1 q) (ltb c 3) refl

-- ---- one broadcast refuses the other's records

-- a string that has a kind has a byte
not_empty : (s : List ℕ) → 1 ≤ get_or s 0 0 → 1 ≤ length s
not_empty [] h = omega arith
not_empty (x ∷ s) h = omega arith

notice_refused : (s : List ℕ) → is_notice_kind (get_or s 0 0) ≡ true → parse s ≡ Fault 21 0
notice_refused s h =
    let few = notice_kind_few (get_or s 0 0) h in
    sym (parse_high s (not_empty s (omega arith)) (omega arith))

record_refused : (s : List ℕ) → is_kind (get_or s 0 0) ≡ true → parse_notice s ≡ Fault 21 0
unfolding parse_notice is_notice_kind pick
record_refused s h =
    let few = kind_few (get_or s 0 0) h in
    rw (le-leb (0 + 1) (length s) (not_empty s few.0), and_off_l (leb 4 (get_or s 0 0)) (leb (get_or s 0 0) 6) (lt-leb 4 (get_or s 0 0) (omega arith)))

-- "a board of one kind of broadcast refuses the kinds of another with 21, both ways"
pub other_kinds : (s : List ℕ) → (is_notice_kind (get_or s 0 0) ≡ true → parse s ≡ Fault 21 0) × (is_kind (get_or s 0 0) ≡ true → parse_notice s ≡ Fault 21 0)
other_kinds s = (notice_refused s, record_refused s)
