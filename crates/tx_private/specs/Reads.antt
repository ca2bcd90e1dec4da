-- A run of readings: all recursion of the definitions is here.
use Rattle.std.specs.Prelude.{ℕ, zero, suc, ◌+◌, ◌≡◌, pos, nat_lt, if◌then◌else◌, List, [], ◌∷◌, ◌++◌, Option, None, Some}
use Rattle.tx_private.specs.World.{World, Output, Failure, failure, Taking, Takes, Finds-none, Spends, Breaks, taking, is_overfull}
use Rattle.tx_private.specs.Readings.{Kind, Control, Expanded, ExpandedInText, LeftBrace, OptionalEquals, QuantityFrom, ListValue, Value, Item, Tok, End, Given, Move, Take, Sub, Again, Done, Bad}
use Rattle.tx_private.specs.Errors.{numbered}
use Rattle.tx_private.specs.Moves.{move_in}

-- how a reading ends
pub data Result : Type 0 where
  -- with a value, in this world
  Gave : Value → World → Result
  Failed : Failure → Result
  -- for want of a step
  Spent : Output → Result

-- how a reading goes on from a reading within it: a failure is its own
abbrev pub passing : (Value → World → Option Result) → Option Result → Option Result
passing go None = None
passing go (Some (Gave value w)) = go value w
passing go (Some (Failed f)) = Some (Failed f)
passing go (Some (Spent o)) = Some (Spent o)

-- how a reading goes on, in what it makes of one item more, after it wished for a token
abbrev pub taken : (Item → World → Option Result) → Taking → Option Result
taken go (Takes command w) = go (Tok command) w
taken go (Finds-none w) = go End w
taken go (Spends o) = Some (Spent o)
taken go (Breaks f) = Some (Failed f)

-- The readings that count: at most 500 of them are open, one within another.
abbrev pub counts : Kind → ℕ
counts Control = 0
counts Expanded = 0
counts ExpandedInText = 0
counts LeftBrace = 0
counts OptionalEquals = 0
counts (QuantityFrom command) = 0
counts ListValue = 0
counts _ = 1

-- the beginning of a reading within another one, and what becomes of its result
abbrev pub within_reading : (World → Option Result) → (Value → World → Option Result) → ℕ → World → Option Result
within_reading begin go weight w =
    if nat_lt 500 (w.depth + weight) then Some (Failed (failure (numbered 57 6 (pos 0)) w))
    else passing (λ value v. go value (record v { depth = w.depth })) (begin (record w { depth = w.depth + weight }))

-- where more tokens are pending than may be, the run fails
abbrev pub checked : World → Option Result → Option Result
checked w r = if is_overfull w then Some (Failed (failure (numbered 57 4 (pos 0)) w)) else r

abbrev pub follow : (Kind → List Item → World → Option Result) → Kind → List Item → Move → Option Result
follow go k items (Take w) = checked w (taken (λ item v. go k (items ++ item ∷ []) v) (taking w))
follow go k items (Sub within w) = checked w (within_reading (go within []) (λ value v. go k (items ++ Given value ∷ []) v) (counts within) w)
follow go k items (Again w) = checked w (go k [] w)
follow go k items (Done value w) = checked w (Some (Gave value w))
follow go k items (Bad error w) = Some (Failed (failure error w))

-- how a reading ends that was given these items, if that takes at most so many moves one after another
unfoldable pub reads : ℕ → Kind → List Item → World → Option Result
reads zero k items w = None
reads (suc n) k items w = follow (reads n) k items (move_in k items w)

-- a reading that was given these items ends so
pub record Reads (k : Kind) (items : List Item) (w : World) (r : Result) : Type 0 where
  pub moves : ℕ
  pub ends : reads moves k items w ≡ Some r
