-- Reading and writing a record: what the promises fix, and how the code's steps make up the writer's.
-- Assumes nothing.
use mathlib.Core.Path.{◌≡◌, sym, ap, ◌∙◌}
use mathlib.Core.List.{List}
use Prim.Native.Nat.{ℕ, ◌+◌, ◌*◌, ◌≤◌, ◌<◌}
use borrow.Author.Tests.{lt-ltb, le-ltb}
use lib.ListN.{length}
use Rattle.octets.specs.Bytes.{pick, put}
use Rattle.record.specs.Form as F
use Rattle.record.specs.Form.{Form, Fault, out_bytes, parse, record_of, form_of, answered}
use Rattle.record.specs.declared.Written.{Written}
use Rattle.record.proofs.PartLaws.{known, parts_fit}
use Rattle.record.proofs.Sections.{record_length}
use Rattle.tumbeliko.specs.declared.Parts.{Parts}
use Rattle.tumbeliko.specs.Records.{Wrote, parts_of, wrote, write_by, write_of}

-- ---- what a promise fixes is one thing only

pub read_record_one : (s : List ℕ) (x y : Parts) → x ≡ parts_of (parse s) → y ≡ parts_of (parse s) → x ≡ y
read_record_one s x y e g = e ∙ sym g

-- an answer and what is written with it
pub wrote_one : (z : Wrote) (x y : Written) (ox oy : List ℕ) → wrote x ox ≡ z → wrote y oy ≡ z → (x ≡ y) × (ox ≡ oy)
wrote_one z x y ox oy e g = let q = e ∙ sym g in (ap (λ w. w.answer) q, ap (λ w. w.out) q)

pub write_record_one : (kind : ℕ) (root path fragment out : List ℕ) (x y : Written) (ox oy : List ℕ)
    → wrote x ox ≡ write_of kind root path fragment out → wrote y oy ≡ write_of kind root path fragment out → (x ≡ y) × (ox ≡ oy)
write_record_one kind root path fragment out x y ox oy e g = wrote_one (write_of kind root path fragment out) x y ox oy e g

-- ---- writing

module _ (kind : ℕ) (root path fragment out : List ℕ) where
  pub write_short : length out < out_bytes → wrote (answered 2 0 0) out ≡ write_of kind root path fragment out
  unfolding write_of pick
  write_short h = rw (lt-ltb (length out) out_bytes h)

  module _ (room : out_bytes ≤ length out) where
    pub write_faulty : (why at : ℕ) → form_of kind (length root) (length path) (length fragment) ≡ Fault why at
        → wrote (answered why at 0) out ≡ write_of kind root path fragment out
    unfolding write_of write_by pick
    write_faulty why at e = rw (le-ltb (length out) out_bytes room, e)

    module _ (k p f : ℕ) (e : form_of kind (length root) (length path) (length fragment) ≡ Form k p f) where
      pub write_fits : F.Parts out root p path fragment
      write_fits = parts_fit kind root path fragment k p f e out room

      -- 7 bytes of kind and counts, the root, the path and the fragment
      pub write_length : 39 + 32 * p + f ≡ length (record_of k root p path fragment)
      write_length =
          let w = known kind (length root) (length path) (length fragment) k p f e in
          rw (← w.fragment_len) (sym (record_length k p root path fragment w.root_len w.path_len))

      pub write_made : (o : List ℕ) → o ≡ put 0 (record_of k root p path fragment) out
          → wrote (answered 0 0 (39 + 32 * p + f)) o ≡ write_of kind root path fragment out
      unfolding write_of write_by pick
      write_made o g = rw (le-ltb (length out) out_bytes room, e, g, write_length)
