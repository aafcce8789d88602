-- Records: what is read can be written with another kind byte, and what is written so is read back.
-- Assumes nothing.
use Prim.Native.Nat.{ℕ, ◌+◌, ◌*◌, ◌/◌, ◌<◌, ◌%◌}
use mathlib.Core.Path.{◌≡◌, refl, subst}
use mathlib.Core.Bool.{Bool, true, false}
use mathlib.Core.List.{List, [], ◌++◌}
use mathlib.Core.Option.{Option, none, some}
use native.Mathlib.Omega.{arith}
use borrow.Author.Tests.{eqb-true, le-leb}
use lib.Dec.{eqb}
use lib.ListN.{length}
use Rattle.octets.specs.Bytes.{pick, part, two}
use Rattle.code.specs.Code.{All, Byte}
use Rattle.code.proofs.Lists.{all_append, part_bytes, two_bytes}
use Rattle.record.specs.Form.{Read, Form, Fault, parse, is_kind, nodes_most, path_ok, fragment_ok, record_of, form_of}
use Rattle.record.proofs.PartLaws.{Fits, fits, known, kind_few, parts_read, parts_pass}
use Rattle.record.proofs.Sections.{record_root, record_path, record_fragment}
use Rattle.line.proofs.Tests.{off, none_some}
use Rattle.line_fragments.specs.Step.{send, echo, vote}
use Rattle.line.specs.Bytes.{bytes}
use Rattle.line_code.specs.Parts.{FragmentRecord, of_kind, record_read, read_record}
use Rattle.line_code.proofs.ByteLaws.{all_bytes, bytes_all}

-- root, path and fragment that a record of kind k can have
pub record Good (k : ℕ) (r π f : List ℕ) : Type 0 where
  pub fits : Fits k (length r) (length π) (length f)
  pub root_bytes : All Byte r
  pub path_bytes : All Byte π
  pub fragment_bytes : All Byte f

-- ---- what is written is read

record_bytes : (k p : ℕ) (r π f : List ℕ) → k < 256 → All Byte r → All Byte π → All Byte f → All Byte (record_of k r p π f)
unfolding record_of
record_bytes k p r π f hk hr hp hf = (
  hk,
  all_append Byte (two 32) (r ++ (two p ++ (π ++ (two (length f) ++ f)))) (two_bytes 32)
      (all_append Byte r (two p ++ (π ++ (two (length f) ++ f))) hr
      (all_append Byte (two p) (π ++ (two (length f) ++ f)) (two_bytes p)
      (all_append Byte π (two (length f) ++ f) hp (all_append Byte (two (length f)) f (two_bytes (length f)) hf)))),
)

module _ (k : ℕ) (r π f : List ℕ) (g : Good k r π f) where
  abbrev written : List ℕ
  written = record_of k r (length π / 32) π f

  written_bytes : bytes written ≡ true
  written_bytes =
      let few = kind_few k (known k (length r) (length π) (length f) k (length π / 32) (length f) g.fits).kind_ok in
      all_bytes written (record_bytes k (length π / 32) r π f (omega arith) g.root_bytes g.path_bytes g.fragment_bytes)

  parts_back : of_kind k (part 3 32 written) (part 37 (32 * (length π / 32)) written) (part (39 + 32 * (length π / 32)) (length f) written) ≡ of_kind k r π f
  parts_back =
      let w = known k (length r) (length π) (length f) k (length π / 32) (length f) g.fits in
      let p = length π / 32 in
      let a = w.root_len in
      let c = w.path_len in
      rw (record_root k p r π f a c, record_path k p r π f a c, record_fragment k p r π f a c (length f) refl)

  pub read_written : read_record (record_of k r (length π / 32) π f) ≡ of_kind k r π f
  unfolding read_record record_read pick
  read_written = rw (written_bytes, parts_read k r π f k (length π / 32) (length f) g.fits) parts_back

-- ---- what is read can be written

-- the bytes s say ρ
pub record Says (s : List ℕ) (ρ : FragmentRecord) : Type 0 where
  pub kind : ℕ
  pub root : List ℕ
  pub path : List ℕ
  pub fragment : List ℕ
  pub good : Good kind root path fragment
  pub is : of_kind kind root path fragment ≡ some ρ

says_of : (s : List ℕ) (x : Read) (ρ : FragmentRecord) → All Byte s → parse s ≡ x → record_read s x ≡ some ρ → Says s ρ
unfolding record_read
says_of s (Fault why at) ρ h e q = none_some ρ q
says_of s (Form k p f) ρ h e q = record {
  kind = k;
  root = part 3 32 s;
  path = part 37 (32 * p) s;
  fragment = part (39 + 32 * p) f s;
  good = record {
    fits = fits k _ _ _ k p f (parts_pass s k p f e);
    root_bytes = part_bytes 3 32 s h;
    path_bytes = part_bytes 37 (32 * p) s h;
    fragment_bytes = part_bytes (39 + 32 * p) f s h;
  };
  is = q;
}

passed : (c : Bool) (o : Option FragmentRecord) (ρ : FragmentRecord) → pick c o none ≡ some ρ → (c ≡ true) × (o ≡ some ρ)
unfolding pick
passed true o ρ e = (refl, e)
passed false o ρ e = none_some ρ e

pub says : (s : List ℕ) (ρ : FragmentRecord) → read_record s ≡ some ρ → Says s ρ
unfolding read_record
says s ρ e =
    let p = passed (bytes s) (record_read s (parse s)) ρ e in
    says_of s (parse s) ρ (bytes_all s p.0) refl p.1

-- ---- by kinds

module _ (r π f : List ℕ) where
  abbrev by : Bool → Bool → Option FragmentRecord
  by a b = pick a (some (send r π f)) (pick b (some (echo r π f)) (some (vote r)))

  by_send : (a b : Bool) (r' π' f' : List ℕ) → by a b ≡ some (send r' π' f') → (a ≡ true) × (r ≡ r') × (π ≡ π') × (f ≡ f')
  unfolding pick
  by_send true b r' π' f' e = (refl, (cc), (cc), (cc))
  by_send false true r' π' f' e = off (cc)
  by_send false false r' π' f' e = off (cc)

  by_echo : (a b : Bool) (r' π' f' : List ℕ) → by a b ≡ some (echo r' π' f') → (b ≡ true) × (r ≡ r') × (π ≡ π') × (f ≡ f')
  unfolding pick
  by_echo true b r' π' f' e = off (cc)
  by_echo false true r' π' f' e = (refl, (cc), (cc), (cc))
  by_echo false false r' π' f' e = off (cc)

  by_vote : (a b : Bool) (r' : List ℕ) → by a b ≡ some (vote r') → r ≡ r'
  unfolding pick
  by_vote true b r' e = off (cc)
  by_vote false true r' e = off (cc)
  by_vote false false r' e = cc

good_of : (k l : ℕ) (r π f r' π' f' : List ℕ) → Good k r π f → k ≡ l → r ≡ r' → π ≡ π' → f ≡ f' → Good l r' π' f'
good_of k l r π f r' π' f' g ek er ep ef = rw (← ek, ← er, ← ep, ← ef) g

pub send_good : (s r π f : List ℕ) → read_record s ≡ some (send r π f) → Good 1 r π f
unfolding of_kind
send_good s r π f e =
    let y = says s (send r π f) e in
    let (k, a, b, c) = by_send y.root y.path y.fragment (eqb y.kind 1) (eqb y.kind 2) r π f y.is in
    good_of y.kind 1 y.root y.path y.fragment r π f y.good (eqb-true y.kind 1 k) a b c

pub echo_good : (s r π f : List ℕ) → read_record s ≡ some (echo r π f) → Good 2 r π f
unfolding of_kind
echo_good s r π f e =
    let y = says s (echo r π f) e in
    let (k, a, b, c) = by_echo y.root y.path y.fragment (eqb y.kind 1) (eqb y.kind 2) r π f y.is in
    good_of y.kind 2 y.root y.path y.fragment r π f y.good (eqb-true y.kind 2 k) a b c

-- ---- another kind byte

-- a send's root, path and fragment are an echo's
echo_fits : (root path fragment : ℕ) → Fits 1 root path fragment → Fits 2 root path fragment
unfolding form_of is_kind path_ok nodes_most fragment_ok pick
echo_fits root path fragment h =
    let w = known 1 root path fragment 1 (path / 32) fragment h in
    let z : path % 32 ≡ 0 = omega (arith, w.path_len) in
    rw (w.root_len, z, le-leb (path / 32) 6 w.nodes, w.fragment_ok_lem)

pub good_echo : (r π f : List ℕ) → Good 1 r π f → Good 2 r π f
good_echo r π f g = record {
  fits = echo_fits (length r) (length π) (length f) g.fits;
  root_bytes = g.root_bytes;
  path_bytes = g.path_bytes;
  fragment_bytes = g.fragment_bytes;
}

-- a record's root is a vote's
pub good_vote : (k : ℕ) (r π f : List ℕ) → Good k r π f → Good 3 r [] []
unfolding form_of is_kind path_ok nodes_most fragment_ok pick
good_vote k r π f g =
    let w = known k (length r) (length π) (length f) k (length π / 32) (length f) g.fits in
    record { fits = rw w.root_len; root_bytes = g.root_bytes; path_bytes = tt; fragment_bytes = tt }

pub vote_good : (s r : List ℕ) → read_record s ≡ some (vote r) → Good 3 r [] []
unfolding of_kind
vote_good s r e =
    let y = says s (vote r) e in
    let a = by_vote y.root y.path y.fragment (eqb y.kind 1) (eqb y.kind 2) r y.is in
    subst (λ (x : List ℕ). Good 3 x [] []) a (good_vote y.kind y.root y.path y.fragment y.good)
