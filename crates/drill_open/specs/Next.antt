-- What the next line of a drill is.
use Rattle.std.specs.Prelude.{◌≡◌, ℕ, List, ◌<◌, length}
use Rattle.drill_words.specs.Words.{upto, past}

-- l is the next line of what is left, and more what follows it
pub record Line (rest l more : List ℕ) : Type 0 where
  pub there : 0 < length rest
  pub line_is : l ≡ upto 10 rest
  pub rest_is : more ≡ past 10 rest
