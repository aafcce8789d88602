-- A notice's records as the broadcast of plain values (crate line) sees them: what a board puts out is read as it was written.
use Prim.Native.Nat.{ℕ, ◌<◌}
use native.Mathlib.Omega.{arith}
use mathlib.Core.Bool.{Bool, true, false}
use mathlib.Core.Path.{◌≡◌, refl, subst, sym, ap, ◌∙◌}
use mathlib.Core.Logic.{◌⊎◌, inl, inr}
use mathlib.Core.List.{List}
use mathlib.Core.Option.{Option, some, none}
use lib.Dec.{eqb}
use lib.ListN.{length, get_or}
use lib.Seq.{take-length}
use Rattle.octets.specs.Bytes.{pick, part, two, same}
use Rattle.octets.proofs.Laws.{length_part}
use Rattle.octets.proofs.Picks.{holds, is_true}
use Rattle.octets.proofs.Sames.{same_self, same_equal}
use Rattle.table.specs.Table.{limits}
use Rattle.table.specs.declared.Table.{Table}
use Rattle.table.proofs.Within.{within}
use Rattle.code.specs.Code.{All, Byte}
use Rattle.code.proofs.Lists.{all_append, part_bytes, two_bytes}
use Rattle.record.specs.Form.{Read, Form, Fault}
use Rattle.notice.specs.Form.{is_notice_kind, parse_notice, notice_record, notice_in, sort_of}
use Rattle.notice.proofs.Facts.{notice_whole}
use Rattle.notice.proofs.Round.{notice_length, notice_back}
use Rattle.line.specs.Bytes.{bytes}
use Rattle.line.specs.Core.{echo, vote}
use Rattle.line.specs.Notice.{Note, send, say}
use Rattle.line.specs.Notice as Plain
use Rattle.line.proofs.Notices.{FormLaws}
use Rattle.line.proofs.Tests.{none_some}
use Rattle.line_code.proofs.ByteLaws.{all_bytes, bytes_all}
use Rattle.line_notice.specs.Boards.{Noticeable}

-- ---- reading and writing

-- a note by its sort: 1 a send, 2 an echo, 3 a vote
unfoldable pub note_of : ℕ → List ℕ → Note (List ℕ)
note_of k v = pick (eqb k 1) (send v) (pick (eqb k 2) (say echo v) (say vote v))

unfoldable pub note_read : List ℕ → Read → Option (Note (List ℕ))
note_read r (Fault why at) = none
note_read r (Form k p f) = some (note_of (sort_of k) (notice_in f r))

-- what a record's bytes say
unfoldable pub read_note : List ℕ → Option (Note (List ℕ))
read_note r = pick (bytes r) (note_read r (parse_notice r)) none

-- the kind byte, the notice
abbrev pub kind_of : Note (List ℕ) → ℕ
kind_of (send v) = 4
kind_of (say echo v) = 5
kind_of (say vote v) = 6

abbrev pub notice_of : Note (List ℕ) → List ℕ
notice_of (send v) = v
notice_of (say w v) = v

abbrev pub write_note : Note (List ℕ) → List ℕ
write_note a = notice_record (kind_of a) (notice_of a)

abbrev pub form_of : (b : Table) → Plain.Form b.n (List ℕ)
form_of b = record { S = b.sender; Bytes = List ℕ; read = read_note; write = write_note }

-- ---- a note is read as it was written

note_is : (a : Note (List ℕ)) → note_of (sort_of (kind_of a)) (notice_of a) ≡ a
unfolding note_of pick
note_is (send v) = refl
note_is (say echo v) = refl
note_is (say vote v) = refl

kind_is : (a : Note (List ℕ)) → is_notice_kind (kind_of a) ≡ true
unfolding is_notice_kind
kind_is (send v) = refl
kind_is (say echo v) = refl
kind_is (say vote v) = refl

kind_byte : (a : Note (List ℕ)) → kind_of a < 256
kind_byte (send v) = omega arith
kind_byte (say echo v) = omega arith
kind_byte (say vote v) = omega arith

notice_front : (k : ℕ) (v : List ℕ) → notice_in (length v) (notice_record k v) ≡ v
unfolding notice_record part
notice_front k v = take-length v

kind_front : (k : ℕ) (v : List ℕ) → get_or (notice_record k v) 0 0 ≡ k
unfolding notice_record
kind_front k v = refl

record_bytes : (k : ℕ) (v : List ℕ) → k < 256 → All Byte v → All Byte (notice_record k v)
unfolding notice_record
record_bytes k v hk hv = (hk, all_append Byte (two (length v)) v (two_bytes (length v)) hv)

-- a whole record that was written is read as the note; the others are not read
read_by_lem : (a : Note (List ℕ)) (x : Read) → parse_notice (write_note a) ≡ x → (note_read (write_note a) x ≡ none) ⊎ (note_read (write_note a) x ≡ some a)
unfolding note_read
read_by_lem a (Fault why at) e = inl refl
read_by_lem a (Form k p f) e = inr (
    let w = notice_whole (write_note a) k p f e in
    let l : f ≡ length (notice_of a) = omega (arith, w.ends, notice_length (kind_of a) (notice_of a)) in
    let q : k ≡ kind_of a = sym w.kind ∙ kind_front (kind_of a) (notice_of a) in
    rw (q, l, notice_front (kind_of a) (notice_of a), note_is a))

reads : (a : Note (List ℕ)) → (read_note (write_note a) ≡ none) ⊎ (read_note (write_note a) ≡ some a)
unfolding read_note pick
reads a = go (bytes (write_note a))
  where
    go : (c : Bool) → (pick c (note_read (write_note a) (parse_notice (write_note a))) none ≡ none)
        ⊎ (pick c (note_read (write_note a) (parse_notice (write_note a))) none ≡ some a)
    go true = read_by_lem a (parse_notice (write_note a)) refl
    go false = inl refl

pub note_back : (a : Note (List ℕ)) → Noticeable (notice_of a) → read_note (write_note a) ≡ some a
unfolding read_note note_read pick
note_back a g = rw (
  all_bytes (write_note a) (record_bytes (kind_of a) (notice_of a) (kind_byte a) (bytes_all (notice_of a) g.bytes)),
  notice_back (kind_of a) (notice_of a) (kind_is a) g.fits,
  notice_front (kind_of a) (notice_of a),
  note_is a,
)

-- ---- what is read can be written

note_of_notice : (k : ℕ) (v : List ℕ) → notice_of (note_of k v) ≡ v
unfolding note_of pick
note_of_notice k v = go (eqb k 1) (eqb k 2)
  where
    go : (c d : Bool) → notice_of (pick c (send v) (pick d (say echo v) (say vote v))) ≡ v
    go true d = refl
    go false true = refl
    go false false = refl

read_good : (r : List ℕ) (x : Read) (a : Note (List ℕ)) → bytes r ≡ true → parse_notice r ≡ x → note_read r x ≡ some a → Noticeable (notice_of a)
unfolding note_read
read_good r (Fault why at) a h e q = none_some a q
read_good r (Form k p f) a h e q =
    let w = notice_whole r k p f e in
    let n : note_of (sort_of k) (notice_in f r) ≡ a = cc in
    subst (λ (y : List ℕ). Noticeable y) (sym (note_of_notice (sort_of k) (notice_in f r)) ∙ ap notice_of n)
    (record { fits = rw (length_part 3 f r (omega (arith, w.ends))) w.most; bytes = all_bytes (notice_in f r) (part_bytes 3 f r (bytes_all r h)) })

passed : (c : Bool) (o : Option (Note (List ℕ))) (a : Note (List ℕ)) → pick c o none ≡ some a → (c ≡ true) × (o ≡ some a)
unfolding pick
passed true o a e = (refl, e)
passed false o a e = none_some a e

good : (r : List ℕ) (a : Note (List ℕ)) → read_note r ≡ some a → Noticeable (notice_of a)
unfolding read_note
good r a e = let p = passed (bytes r) (note_read r (parse_notice r)) a e in read_good r (parse_notice r) a p.0 refl p.1

-- ---- the laws

pub form_laws : (b : Table) → limits b ≡ true → FormLaws b.n b.t same (form_of b)
form_laws b limited =
    let w = within b limited in
    record {
      third = w.third;
      sender = record { low = w.sender_one; high = w.sender_few };
      same_eq = λ u v t. same_equal u v (is_true (same u v) t);
      same_refl = λ v. holds (same v v) (same_self v);
      reads = reads;
      echo_back = λ r v e. note_back (say echo v) (good r (send v) e);
      vote_back = λ r w v e. note_back (say vote v) (good r (say w v) e);
    }
