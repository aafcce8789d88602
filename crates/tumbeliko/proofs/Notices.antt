-- Reading and writing a notice record: what the promises fix, and how the code's steps make up the writer's.
-- Assumes nothing.
use mathlib.Core.Path.{◌≡◌, sym, ◌∙◌}
use mathlib.Core.List.{List}
use Prim.Native.Nat.{ℕ, ◌+◌, ◌≤◌, ◌<◌}
use native.Mathlib.Omega.{arith}
use borrow.Author.Tests.{lt-ltb, le-ltb}
use lib.ListN.{length}
use Rattle.octets.specs.Bytes.{pick, put}
use Rattle.record.specs.Form.{Form, Fault, answered}
use Rattle.record.specs.declared.Written.{Written}
use Rattle.notice.specs.Form.{notice_most, notice_out_bytes, parse_notice, notice_form, notice_record}
use Rattle.notice.proofs.Facts.{notice_known}
use Rattle.notice.proofs.Round.{notice_length}
use Rattle.tumbeliko.specs.declared.Notice.{Notice}
use Rattle.tumbeliko.specs.Records.{wrote}
use Rattle.tumbeliko.specs.Notices.{notice_parts_of, notice_write_by, notice_write_of}
use Rattle.tumbeliko.proofs.Records.{wrote_one}

-- ---- what a promise fixes is one thing only

pub read_notice_one : (s : List ℕ) (x y : Notice) → x ≡ notice_parts_of (parse_notice s) → y ≡ notice_parts_of (parse_notice s) → x ≡ y
read_notice_one s x y e g = e ∙ sym g

pub write_notice_one : (kind : ℕ) (v out : List ℕ) (x y : Written) (ox oy : List ℕ)
    → wrote x ox ≡ notice_write_of kind v out → wrote y oy ≡ notice_write_of kind v out → (x ≡ y) × (ox ≡ oy)
write_notice_one kind v out x y ox oy e g = wrote_one (notice_write_of kind v out) x y ox oy e g

-- ---- writing

module _ (kind : ℕ) (v out : List ℕ) where
  pub notice_small : length out < notice_out_bytes → wrote (answered 2 0 0) out ≡ notice_write_of kind v out
  unfolding notice_write_of pick
  notice_small h = rw (lt-ltb (length out) notice_out_bytes h)

  module _ (room : notice_out_bytes ≤ length out) where
    pub notice_faulty : (why at : ℕ) → notice_form kind (length v) ≡ Fault why at → wrote (answered why at 0) out ≡ notice_write_of kind v out
    unfolding notice_write_of notice_write_by pick
    notice_faulty why at e = rw (le-ltb (length out) notice_out_bytes room, e)

    module _ (k p f : ℕ) (e : notice_form kind (length v) ≡ Form k p f) where
      pub notice_fits : (length v ≤ notice_most) × (3 + length v ≤ length out)
      notice_fits = let w = notice_known kind (length v) k p f e in (w.most, omega (arith, w.most))

      pub notice_made : (o : List ℕ) → o ≡ put 0 (notice_record k v) out → wrote (answered 0 0 (3 + f)) o ≡ notice_write_of kind v out
      unfolding notice_write_of notice_write_by pick
      notice_made o g =
          let w = notice_known kind (length v) k p f e in
          rw (le-ltb (length out) notice_out_bytes room, e, g, notice_length k v, w.bytes)
