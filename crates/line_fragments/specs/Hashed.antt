-- The strings hashed in a run. Document 01: "The strings hashed in a run are those that, by the written definitions, are hashed in path
-- checks of records that rule-keeping boards accept, in these boards' fresh encodings and in a rule-keeping sender's encoding; what
-- rule-breakers hash doesn't count."
use Rattle.std.specs.Prelude.{ℕ, Bool, ◌≡◌, ◌⊎◌, T}
use Rattle.line.specs.Run.{Machine, In, Input, Run, after, state}
use Rattle.line_fragments.specs.Code.{Code}
use Rattle.line_fragments.specs.Step.{send, echo, vote, Line, BoardState, Act, refuse, take, act, keep_act, usable_naming, ends}

module _ {n t : ℕ} {C : Code} (B : Line n t C) where
  -- the strings of the fresh encoding, in a state that just named v
  abbrev pub fresh_in : BoardState B → C.Root → C.Str → Type 0
  fresh_in s v y = T (ends B s v) × C.fresh v (usable_naming B s v) s.frag y

  -- "path checks of records that rule-keeping boards accept", of sends at the own number, of echoes at the sender's; "fresh encodings"
  abbrev pub hashed_by : BoardState B → Act B → C.Str → Type 0
  hashed_by s refuse y = ⊥
  hashed_by s (take i (send r π f)) y = C.checked r s.own f π y
  hashed_by s (take i (echo r π f)) y = C.checked r i f π y ⊎ fresh_in (keep_act B s (take i (echo r π f))) r y
  hashed_by s (take i (vote r)) y = fresh_in (keep_act B s (take i (vote r))) r y

  -- the strings hashed in a step
  abbrev pub hashes : BoardState B → Input ⊥ B.Bytes → C.Str → Type 0
  hashes s x y = hashed_by s (act B s x) y

-- of a machine whose steps hash: a rule-keeping board hashed y
module _ (M : Machine) (Str : Type 0) (hashes : M.State → In M → Str → Type 0) (keeps : ℕ → Bool) where
  pub data Hashed (y : Str) : Run M → Type 0 where
    now : {r : Run M} {j : ℕ} {x : In M} → T (keeps j) → hashes (state M r j) x y → Hashed y (after r j x)
    then : {r : Run M} {k : ℕ} {x : In M} → Hashed y r → Hashed y (after r k x)

-- two different strings, one of X and one of Y, with one hash value
abbrev pub Clash : {Str Digest : Type 0} → (Str → Digest) → (Str → Type 0) → (Str → Type 0) → Type 0
Clash {Str} hash X Y = (x y : Str) × X x × Y y × (x ≡ y → ⊥) × (hash x ≡ hash y)

-- S and m: the sender, and its message if it keeps the rules
module _ (C : Code) (M : Machine) (hashes : M.State → In M → C.Str → Type 0) (keeps : ℕ → Bool) (S : ℕ) (m : C.Msg) where
  abbrev pub InRun : Run M → C.Str → Type 0
  InRun r y = Hashed M C.Str hashes keeps y r ⊎ (T (keeps S) × C.coded m y)

  -- two different strings hashed in the run have one hash value
  abbrev pub CollisionIn : Run M → Type 0
  CollisionIn r = Clash C.hash (InRun r) (InRun r)
