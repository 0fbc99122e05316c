-- What the program does with its input, which it reads block after block: it feeds a replay, and writes what that answers.
use Rattle.std.specs.Prelude.{◌≡◌, ℕ, List, [], ◌++◌, Option}
use Rattle.std.specs.Io.KnownBytes.{Appends, Consumes}
use Rattle.replay_lines.specs.declared.Replay.{Replay}
use Rattle.replay_lines.specs.Replay.{replay}
use Rattle.replay_lines.specs.Pieces.{Piece, take_pieces}

-- calls from `r` on take `input` but for `left`, and put `out` into their outputs; what comes after the input makes no difference
pub record Feeds (r : Replay) (input : List ℕ) (r' : Replay) (left out : List ℕ) : Type 0 where
  pub pieces : List Piece
  pub taken : (rest put : List ℕ) →
      take_pieces (record { replay = r; left = input ++ rest; written = put }) pieces ≡ record { replay = r'; left = left ++ rest; written = put ++ out }

-- calls from `r` on take the input, but for `left`, and what they put into their outputs is written
pub record Answers (r : Replay) (input : List ℕ) (r' : Replay) (left : List ℕ) (written written' : Option (List ℕ)) : Type 0 where
  pub out : List ℕ
  pub fed : Feeds r input r' left out
  pub wrote : Appends written written' out

-- some input is read, and answered from `r` on
pub record AnswersRead (r r' : Replay) (unread unread' written written' : Option (List ℕ)) : Type 0 where
  pub input : List ℕ
  pub read : Consumes unread unread' input
  pub answered : Answers r input r' [] written written'

-- some input is read, and its replay is written
pub record ReplaysRead (unread unread' written written' : Option (List ℕ)) : Type 0 where
  pub input : List ℕ
  pub read : Consumes unread unread' input
  pub wrote : Appends written written' (replay input)
