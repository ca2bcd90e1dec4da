-- A port that hands out links, and what its calls do.
use Rattle.std.specs.Prelude.{◌≡◌, ℕ, ◌+◌, ◌≤◌, Bool, true, false, List, [], ◌∷◌, ◌++◌, length, Option, Some, IfSome, slice_get}
use Rattle.tx_bytes.specs.declared.outside.Bound.{Bound}
use Rattle.tx_bytes.specs.declared.outside.Bound.TheVariants as bound
use Rattle.tx_bytes.specs.declared.outside.Knock.{Knock}
use Rattle.tx_bytes.specs.declared.outside.Knock.TheVariants as knock
use Rattle.tx_bytes.specs.Tells.{Tells, Grows, HasRisen}

-- What a port tells of itself: how many of its calls failed, how many links it handed out, whether it
-- is bound and whether it is closed, what the links tell that came back, in order, and, where it
-- tells them, all the bytes of each of its links, those still to come included.
pub record PortTells : Type 0 where
  pub faults : ℕ
  pub handed : ℕ
  pub is_bound : Bool
  pub is_closed : Bool
  pub back : List Tells
  pub links : Option (List (List ℕ))

-- only the count of faults may differ
pub record SamePort (old new : PortTells) : Type 0 where
  pub handed : new.handed ≡ old.handed
  pub is_bound : new.is_bound ≡ old.is_bound
  pub is_closed : new.is_closed ≡ old.is_closed
  pub back : new.back ≡ old.back
  pub links : new.links ≡ old.links

-- A link as it is handed out: no call of it failed, nothing of it was read and it got nothing. Where
-- the port tells its links' bytes, all bytes of this one are left.
pub record IsFresh (port : PortTells) (link : Tells) : Type 0 where
  pub faults : link.faults ≡ 0
  pub was_read : IfSome link.was_read (λ bytes. bytes ≡ [])
  pub got : IfSome link.got (λ bytes. bytes ≡ [])
  pub told : IfSome port.links (λ links. (bytes : List ℕ) × (slice_get links port.handed ≡ Some bytes) × (link.was_read ≡ Some []) × (link.left ≡ Some bytes))

-- After the binding. A port that was bound is bound anew.
abbrev pub AfterBind : PortTells → Bound → PortTells → Type 0
AfterBind old bound.Ready new =
    (new.is_bound ≡ true) × (new.faults ≡ old.faults) × (new.handed ≡ old.handed) × (new.is_closed ≡ old.is_closed)
    × (new.back ≡ old.back) × (new.links ≡ old.links)
AfterBind old bound.Failed new = HasRisen old.faults new.faults × SamePort old new

-- After a wait for the next link, seen by what it tells.
abbrev pub AfterAccept : {L : Type 0} → (L → Tells) → PortTells → Knock L → PortTells → Type 0
-- one link more was handed out, which a closed port never does
AfterAccept tells old (knock.Link link) new =
    Grows old.faults new.faults × IsFresh old (tells link) × (old.is_closed ≡ false) × (new.handed ≡ old.handed + 1) × (new.is_bound ≡ old.is_bound)
    × (new.is_closed ≡ old.is_closed) × (new.back ≡ old.back) × (new.links ≡ old.links)
-- no further link is handed out, from now on
AfterAccept tells old knock.Closed new =
    Grows old.faults new.faults × (new.is_closed ≡ true) × (new.handed ≡ old.handed) × (new.is_bound ≡ old.is_bound)
    × (new.back ≡ old.back) × (new.links ≡ old.links) × IfSome old.links (λ links. length links ≤ old.handed)
AfterAccept tells old knock.Failed new = HasRisen old.faults new.faults × SamePort old new
AfterAccept tells old knock.Memory new = Grows old.faults new.faults × SamePort old new

-- a link that tells this came back, and nothing else happened
pub record TakesBack (old : PortTells) (link : Tells) (new : PortTells) : Type 0 where
  pub faults : new.faults ≡ old.faults
  pub handed : new.handed ≡ old.handed
  pub is_bound : new.is_bound ≡ old.is_bound
  pub is_closed : new.is_closed ≡ old.is_closed
  pub back : new.back ≡ old.back ++ link ∷ []
  pub links : new.links ≡ old.links
