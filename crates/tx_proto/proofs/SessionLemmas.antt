-- Requests read one after another, and the input of which they were read.
use Rattle.std.proofs.Common.{◌≡◌, ℕ, List, [], ◌++◌, Option, None, Some, IfSome, length, sym, ap, subst, ◌∙◌}
use Rattle.std.specs.List.{flat_map, AllByRecursion}
use Rattle.tx_bytes.specs.Tells.{Tells, Loses, ReadsNext}
use Rattle.tx_model.specs.Frames.{Request, IsLawful, frame, bye, BreaksAt}
use Rattle.tx_proto.specs.declared.requests.EndBy.TheVariants as end
use Rattle.tx_proto.specs.declared.requests.Got.{Got}
use Rattle.tx_proto.specs.declared.requests.Got.TheVariants as got
use Rattle.tx_proto.specs.Requests.{AfterRequest, ReadsAs, request_in}
use Rattle.tx_proto.proofs.BreakLemmas.{breaks-behind, breaks-left}

-- what is left after a read of told bytes
taken : (left now : Option (List ℕ)) (rest bytes : List ℕ) → left ≡ Some rest → Loses left bytes now → (after : List ℕ) × (rest ≡ bytes ++ after) × (now ≡ Some after)
taken left now rest bytes is loses = subst (λ told. Loses told bytes now) is loses

reads-rest : (input rest : List ℕ) (mid new : Tells) (requests : List Request) (result : Got) → AllByRecursion IsLawful requests → input ≡ flat_map frame requests ++ rest → mid.left ≡ Some rest → AfterRequest mid (length (flat_map frame requests)) result new → ReadsAs input requests result
reads-rest input rest mid new requests (got.Request r) lawful is left after =
    let next = taken mid.left new.left rest (frame (request_in r)) left after.1.left in
    (next.0, is ∙ ap (λ xs. flat_map frame requests ++ xs) next.1)
reads-rest input rest mid new requests (got.End end.Bye) lawful is left after =
    let next = taken mid.left new.left rest bye left after.left in
    record { lawful = lawful; rest = rest; frames = is; ends = (next.0, next.1) }
reads-rest input rest mid new requests (got.End end.Bytes) lawful is left after =
    let next = taken mid.left new.left rest [] left after.0.left in
    let none : next.0 ≡ [] = subst (λ told. IfSome told (λ xs. xs ≡ [])) next.2 after.1 in
    record { lawful = lawful; rest = rest; frames = is; ends = next.1 ∙ none }
reads-rest input rest mid new requests (got.Bad n) lawful is left (place, at, read) =
    let breaks : BreaksAt rest place = subst (λ told. IfSome told (λ xs. BreaksAt xs place)) left (breaks-left mid new place read) in
    subst (λ xs. BreaksAt xs n) (sym is) (subst (λ k. BreaksAt (flat_map frame requests ++ rest) k) (sym at) (breaks-behind requests rest place lawful breaks))
reads-rest input rest mid new requests got.ReadFault lawful is left after = (rest, is)
reads-rest input rest mid new requests got.Memory lawful is left after = (rest, is)

told-as : (left : Option (List ℕ)) (mid new : Tells) (requests : List Request) (result : Got) → AllByRecursion IsLawful requests → Loses left (flat_map frame requests) mid.left → AfterRequest mid (length (flat_map frame requests)) result new → IfSome left (λ input. ReadsAs input requests result)
told-as None mid new requests result lawful loses after = tt
told-as (Some input) mid new requests result lawful (rest, is, left) after = reads-rest input rest mid new requests result lawful is left after

-- the input is read as what is got
pub reads-as : (old mid new : Tells) (requests : List Request) (result : Got) → AllByRecursion IsLawful requests → ReadsNext old (flat_map frame requests) mid → AfterRequest mid (length (flat_map frame requests)) result new → IfSome old.left (λ input. ReadsAs input requests result)
reads-as old mid new requests result lawful next after = told-as old.left mid new requests result lawful next.left after
