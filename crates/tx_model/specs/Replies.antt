-- Replies and their bytes.
use Rattle.std.specs.Prelude.{◌≡◌, ℕ, List, [], ◌∷◌, ◌++◌, length}
use Rattle.std.specs.Fmt.{decimal}
use lib.Chars.{codes}
use Rattle.tx_model.specs.declared.reply.Status.{Status}
use Rattle.tx_model.specs.declared.reply.Status.TheVariants as status
use Rattle.tx_model.specs.Bytes.{newline, blank}
use Rattle.tx_model.specs.Environment.{Map}
use Rattle.tx_model.specs.Region.{Outcome, Region}
use Rattle.tx_model.specs.Frames.{Request}

pub data Reply : Type 0 where
  -- to a region
  Answer : Outcome → Reply
  -- memory was wanting for a region
  Memory : Reply
  -- the session has had all its regions
  Full : Reply
  -- the input breaks the grammar of frames at this place
  BadFrame : ℕ → Reply

abbrev pub status_word : Status → List ℕ
status_word status.Done = codes "DONE"
status_word status.Fail = codes "FAIL"
status_word status.Spent = codes "SPENT"

-- a header of five words: the status, steps, pages, and the lengths of the DVI and of the log
abbrev pub header : List ℕ → ℕ → ℕ → ℕ → ℕ → List ℕ
header word steps pages dvi log =
    word ++ (blank ∷ decimal steps) ++ (blank ∷ decimal pages) ++ (blank ∷ decimal dvi) ++ (blank ∷ decimal log) ++ newline ∷ []

abbrev pub reply_bytes : Reply → List ℕ
reply_bytes (Answer o) = header (status_word o.status) o.steps o.pages (length o.dvi) (length o.log) ++ o.dvi ++ o.log
reply_bytes Memory = header (codes "MEMORY") 0 0 0 0
reply_bytes Full = codes "FULL" ++ newline ∷ []
reply_bytes (BadFrame place) = codes "BAD " ++ decimal place ++ newline ∷ []

-- From this state the reply says what the private TeX gives for the request, and leaves the state that the
-- private TeX leaves; or it says that memory was wanting, and the state stays.
abbrev pub Replies : Map → Request → Reply → Map → Type 0
Replies map request (Answer outcome) after = Region map request.text request.budget outcome after
Replies map request Memory after = map ≡ after
Replies map request _ after = ⊥

-- From this state, these replies answer these requests one by one, each in the state that those before it
-- leave, and the last one leaves this state.
abbrev pub Answers : Map → List Request → List Reply → Map → Type 0
Answers map [] [] after = map ≡ after
Answers map (request ∷ requests) (reply ∷ replies) after =
    (next : Map) × Replies map request reply next × Answers next requests replies after
Answers map _ _ after = ⊥
