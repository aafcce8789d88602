-- The records of a line: what a board puts out is read as it was written.
-- Assumes nothing.
use Prim.Native.Nat.{ℕ}
use mathlib.Core.Path.{◌≡◌}
use mathlib.Core.Bool.{true}
use mathlib.Core.List.{List, []}
use mathlib.Core.Option.{some}
use Rattle.octets.specs.Bytes.{pick, same}
use Rattle.octets.proofs.Sames.{same_self, same_equal}
use Rattle.table.specs.Table.{limits}
use Rattle.table.specs.declared.Table.{Table}
use Rattle.table.proofs.Within.{within}
use Rattle.line_fragments.specs.Step.{send, echo, vote}
use Rattle.line_fragments.specs.Laws.{LineLaws}
use Rattle.line_code.specs.Parts.{of_kind, read_record, write_record, line_of}
use Rattle.octets.proofs.Picks.{holds, is_true}
use Rattle.line_code.proofs.Records.{Good, read_written, send_good, echo_good, vote_good, good_echo, good_vote}

-- ---- by kinds

pub read_send : (r π f : List ℕ) → Good 1 r π f → read_record (write_record (send r π f)) ≡ some (send r π f)
unfolding write_record of_kind pick
read_send r π f g = read_written 1 r π f g

read_echo : (r π f : List ℕ) → Good 2 r π f → read_record (write_record (echo r π f)) ≡ some (echo r π f)
unfolding write_record of_kind pick
read_echo r π f g = read_written 2 r π f g

read_vote : (r : List ℕ) → Good 3 r [] [] → read_record (write_record (vote r)) ≡ some (vote r)
unfolding write_record of_kind pick
read_vote r g = read_written 3 r [] [] g

-- ---- the laws

pub line_laws : (b : Table) → limits b ≡ true → LineLaws (line_of b)
line_laws b limited =
    let w = within b limited in
    record {
      third = w.third;
      sender = record { low = w.sender_one; high = w.sender_few };
      same_eq = λ u v t. same_equal u v (is_true (same u v) t);
      same_refl = λ v. holds (same v v) (same_self v);
      echo_back = λ s r π f e. read_echo r π f (good_echo r π f (send_good s r π f e));
      vote_back = λ s r e. read_vote r (vote_good s r e);
      vote_of_echo = λ s r π f e. read_vote r (good_vote 2 r π f (echo_good s r π f e));
    }
