-- What the promise asks of hash, tree, code and records. Other crates prove it of the real ones.
use Rattle.std.specs.Prelude.{ℕ, ◌-◌, ◌*◌, ◌≤◌, ◌<◌, Bool, ◌≡◌, ◌⊎◌, T}
use Rattle.std.proofs.Math.Option.{some}
use Rattle.line.specs.Boards.{count, Board}
use Rattle.line_fragments.specs.Code.{Code}
use Rattle.line_fragments.specs.Step.{send, echo, vote, Line, mail}
use Rattle.line_fragments.specs.Hashed.{Clash}

pub record CodeLaws (n t : ℕ) (C : Code) : Type 0 where
  -- the tree: a path of an encoding is correct, and a correct path shows the fragment encoded
  pub path_good : (m : C.Msg) (i : ℕ) → C.Fits m → Board n i → T (C.check (C.root m) i (C.piece m i) (C.path m i))
  pub path_binds : (m : C.Msg) (i : ℕ) (f : C.Frag) (π : C.Path) → C.Fits m → Board n i → T (C.check (C.root m) i f π)
      → (f ≡ C.piece m i) ⊎ Clash C.hash (C.checked (C.root m) i f π) (C.coded m)
  -- the code: k fragments of an encoding give the message back
  pub result_back : (m : C.Msg) (U : ℕ → Bool) (F : ℕ → C.Frag) → C.Fits m → n - 2 * t ≤ count U n
      → ((i : ℕ) → Board n i → T (U i) → F i ≡ C.piece m i) → C.result (C.root m) U F ≡ some m
  -- the fresh encoding: a message is delivered only if its root is the one voted for, and its encoding was hashed
  pub result_root : (v : C.Root) (U : ℕ → Bool) (F : ℕ → C.Frag) (m : C.Msg) → ((i : ℕ) → T (U i) → C.Proper (F i))
      → C.result v U F ≡ some m → C.Fits m × (C.root m ≡ v)
  pub result_fresh : (v : C.Root) (U : ℕ → Bool) (F : ℕ → C.Frag) (m : C.Msg) (y : C.Str) → C.result v U F ≡ some m → C.coded m y → C.fresh v U F y

module _ {n t : ℕ} {C : Code} (B : Line n t C) where
  -- table, comparison of roots, and what a board puts out is read as it was written; none of it speaks of the code
  pub record LineLaws : Type 0 where
    pub third : 3 * t < n
    pub sender : Board n B.S
    pub same_eq : (u v : C.Root) → T (B.same u v) → u ≡ v
    pub same_refl : (v : C.Root) → T (B.same v v)
    pub echo_back : (b : B.Bytes) (r : C.Root) (π : C.Path) (f : C.Frag) → B.read b ≡ some (send r π f) → B.read (B.write (echo r π f)) ≡ some (echo r π f)
    pub vote_back : (b : B.Bytes) (r : C.Root) → B.read b ≡ some (vote r) → B.read (B.write (vote r)) ≡ some (vote r)
    pub vote_of_echo : (b : B.Bytes) (r : C.Root) (π : C.Path) (f : C.Frag) → B.read b ≡ some (echo r π f) → B.read (B.write (vote r)) ≡ some (vote r)

  -- a fragment that is read is a string of bytes; the sender's records are read as they were written, and their fragments are short enough
  pub record MailLaws : Type 0 where
    pub read_proper : (b : B.Bytes) (r : C.Root) (π : C.Path) (f : C.Frag) → B.read b ≡ some (echo r π f) → C.Proper f
    pub send_back : (m : C.Msg) (j : ℕ) → C.Fits m → Board n j → B.read (mail B m j) ≡ some (send (C.root m) (C.path m j) (C.piece m j))
    pub piece_short : (m : C.Msg) (j : ℕ) → C.Fits m → Board n j → T (B.short (C.piece m j))
