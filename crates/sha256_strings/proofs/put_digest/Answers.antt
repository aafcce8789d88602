use mathlib.Core.Path.{◌≡◌, refl, sym, ap, ◌∙◌}
use mathlib.Core.List.{List, [], ◌∷◌, ◌++◌, append_assoc}
use Prim.Native.Nat.{ℕ, ◌+◌, ◌*◌, ◌/◌, ◌%◌, ◌<◌}
use native.Mathlib.Omega.{arith}
use native.Mathlib.Numerals.{add-one}
use lib.ListN.{length, get_or}
use Rattle.std.specs.Int.{w32, to_be_bytes}
use Rattle.octets.specs.Bytes.{tab, put}
use Rattle.octets.proofs.Laws.{put_next, length_put}
use Rattle.octets.proofs.Tables.{length_tab}
use Rattle.sha256.specs.Sha256.{byte_of, digest}
use Rattle.sha256_strings.proofs.put_digest.Invariants.{byte_at}
use Rattle.sha256_strings.proofs.put_digest.Goals as goal

tab_more : (f : ℕ → ℕ) (n m : ℕ) → m ≡ n + 1 → tab m f ≡ tab n f ++ (f n ∷ [])
unfolding tab
tab_more f n m e = rw (e, add-one)

tab_four : (f : ℕ → ℕ) (n m : ℕ) → m ≡ n + 4 → tab m f ≡ tab n f ++ (f n ∷ f (n + 1) ∷ f (n + 2) ∷ f (n + 3) ∷ [])
tab_four f n m e =
    rw (tab_more f (n + 3) m (omega arith), tab_more f (n + 2) (n + 3) (omega arith), tab_more f (n + 1) (n + 2) (omega arith), tab_more f n (n + 1) refl)
    (simp append_assoc)

byte_word : (h : List ℕ) (i k : ℕ) → k < 4 → byte_of 4 (get_or h i 0) k ≡ byte_at h (4 * i + k)
byte_word h i k lt =
    let e : (4 * i + k) / 4 ≡ i = omega arith in
    let f : (4 * i + k) % 4 ≡ k = omega arith in
    rw (e, f)

be_bytes : (x : ℕ) → to_be_bytes w32 x ≡ byte_of 4 x 0 ∷ byte_of 4 x 1 ∷ byte_of 4 x 2 ∷ byte_of 4 x 3 ∷ []
unfolding byte_of
be_bytes x = let e : x / 1 ≡ x = omega arith in rw e

be_word : (h : List ℕ) (i : ℕ) → to_be_bytes w32 (get_or h i 0) ≡ byte_at h (4 * i) ∷ byte_at h (4 * i + 1) ∷ byte_at h (4 * i + 2) ∷ byte_at h (4 * i + 3) ∷ []
be_word h i =
    let e : 4 * i + 0 ≡ 4 * i = omega arith in
    be_bytes (get_or h i 0)
    ∙ rw (byte_word h i 0 (omega arith), byte_word h i 1 (omega arith), byte_word h i 2 (omega arith), byte_word h i 3 (omega arith), e)

put_step : (f : ℕ → ℕ) (s l v : List ℕ) (a n m : ℕ) → m ≡ n + 4 → l ≡ put a (tab n f) s → v ≡ f n ∷ f (n + 1) ∷ f (n + 2) ∷ f (n + 3) ∷ []
    → put (a + n) v l ≡ put a (tab m f) s
put_step f s l v a n m e g h =
    rw (g, h, tab_four f n m e)
    (put_next (tab n f) (f n ∷ f (n + 1) ∷ f (n + 2) ∷ f (n + 3) ∷ []) s a (a + n) (ap (λ (k : ℕ). a + k) (sym (length_tab n f))))

pub loop-i-init : goal.loop-i-init
unfolding tab put
loop-i-init c = (refl, refl)

pub loop-i-preserved : goal.loop-i-preserved
loop-i-preserved c =
    let l = c.loop-i in
    (ap length c.copy_at.ensures ∙ length_put _ _ _ ∙ l.invariant.0, c.copy_at.ensures ∙ put_step (byte_at c.args.h.now) _ _ _ _ (4 * l.i) (4 * (l.i + 1)) (omega arith) l.invariant.1 (c.to_be_bytes.ensures ∙ be_word c.args.h.now l.i))

pub returns : goal.returns
unfolding digest
returns c =
    let l = c.loop-i in
    let a = c.args in
    let e : 4 * l.i ≡ 32 = omega arith in
    l.invariant.1 ∙ ap (λ (n : ℕ). put a.at (tab n (byte_at a.h.now)) a.out.now) e
