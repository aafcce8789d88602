-- The path in the buffer, a level after the other.
-- Assumes nothing.
use mathlib.Core.Path.{◌≡◌, sym, ap, ◌∙◌, subst}
use mathlib.Core.List.{List, ◌++◌}
use Prim.Native.Nat.{ℕ, ◌+◌, ◌-◌, ◌*◌, ◌<◌, ◌≤◌}
use native.Mathlib.Omega.{arith}
use lib.ListN.{length}
use Rattle.octets.specs.Bytes.{put}
use Rattle.octets.proofs.Laws.{put_next}
use Rattle.tree.specs.Tree.{tree_of, depth, path_of, flat}
use Rattle.tree.specs.Levels.{middle, around, path_to}
use Rattle.octets.proofs.Parts.{put_comm}
use Rattle.tree.proofs.Spans.{depth_more, depth_grows, depth_all}
use Rattle.tree.proofs.Paths.{besides, besides_size, path_to_none, path_to_more, path_to_alone, path_to_all, path_to_length}
use Rattle.board_send.specs.Laying.{Alike, Laid}

-- a node of the path ends before the path does
pub node_fits : (n i d : ℕ) → n ≤ 64 → i < n → d < 6 → middle d i < n → depth (around n d i) i < depth (tree_of n) i
node_fits n i d few lt low h =
    let top : d + 1 + (5 - d) ≡ 6 = omega arith in
    let grown : depth (around n (d + 1) i) i ≤ depth (around n 6 i) i = rw top at (depth_grows n i lt (d + 1) (5 - d)) in
    omega (arith, depth_more n d i h, depth_all n i few lt)

module _ (n : ℕ) (fs : ℕ → List ℕ) (i at len : ℕ) (old : List ℕ) where
  pub laid_start : Laid n fs i 0 at len old old
  unfolding put
  laid_start = record { path = record { same = λ f h. ap (λ (p : List ℕ). put at f (put 37 p old)) (sym (path_to_none n fs i)) } }

  pub laid_alone : (d : ℕ) (out : List ℕ) → i < n → n ≤ middle d i → Laid n fs i d at len old out → Laid n fs i (d + 1) at len old out
  laid_alone d out lt h l = record { path = subst (λ (p : List ℕ). Alike at len out (put 37 p old)) (sym (path_to_alone n fs d i lt h)) l.path }

  -- the room is used, and a node x is put in after those before it
  pub laid_more : (d b : ℕ) (x out used new : List ℕ) → middle d i < n → b ≡ 37 + 32 * depth (around n d i) i → b + 32 ≤ at → x ≡ besides n fs d i
      → Alike at len used out → new ≡ put b x used → Laid n fs i d at len old out → Laid n fs i (d + 1) at len old new
  laid_more d b x out used new g eb room ex a e l = record {
    path = record {
      same = λ f h.
          ap (put at f) e ∙ sym (put_comm f x used at b size) ∙ ap (put b x) (a.same f h ∙ l.path.same f h)
          ∙ put_comm f x (put 37 (path_to n fs d i) old) at b size
          ∙ ap (put at f) (put_next (path_to n fs d i) x old 37 b (omega (arith, path_to_length n fs d i)) ∙ ap (λ (p : List ℕ). put 37 p old) grown);
    };
  }
    where
      size : b + length x ≤ at
      size = omega (arith, ap length ex, besides_size n fs d i)

      grown : path_to n fs d i ++ x ≡ path_to n fs (d + 1) i
      grown = ap (λ (y : List ℕ). path_to n fs d i ++ y) ex ∙ sym (path_to_more n fs d i g)

  pub laid_end : (d : ℕ) (out : List ℕ) → n ≤ 64 → i < n → d ≡ 6 → Laid n fs i d at len old out → Alike at len out (put 37 (flat (path_of n fs i)) old)
  laid_end d out few lt e l =
      subst (λ (p : List ℕ). Alike at len out (put 37 p old)) (ap (λ (x : ℕ). path_to n fs x i) e ∙ path_to_all n fs i few lt) l.path
