-- `sha256_strings::pad_word` meets its contract. Assumes nothing.
use native.Mathlib.Omega.{arith}
use Rattle.sha256.proofs.Blocks.{pad_early, pad_full, pad_last}
use Rattle.sha256_strings.proofs.pad_word.Goals as goal
use Rattle.sha256_strings.proofs.pad_word.Goals.{then-i-lt60-via-then-i-lt60, then-i-lt60-via-else-i-lt60+then-i-n}

pub returns-then-i-lt60 : goal.returns-then-i-lt60
returns-then-i-lt60 c =
    let a = c.args in
    elim c.then-i-lt60.branch [
      | then-i-lt60-via-then-i-lt60 w ↦
          λ m len. pad_early m a.n a.i len (omega arith) (omega arith) (omega arith) (omega arith) (omega arith)
      | then-i-lt60-via-else-i-lt60+then-i-n w ↦
          λ m len. pad_full m a.n a.i len (omega arith) (omega arith) (omega arith) (omega arith) (omega arith) (omega arith)
    ]

pub returns : goal.returns
returns c =
    let a = c.args in λ m len. pad_last m a.n a.i len (omega arith) (omega arith) (omega arith) (omega arith) (omega arith) (omega arith)
