-- How a session is made of its turns.
use Rattle.std.proofs.Common.{◌≡◌, ◌≢◌, ℕ, suc, ◌+◌, ◌-◌, ◌<◌, ◌≤◌, ◌^◌, ◌⊎◌, inl, inr, min, List, [], ◌∷◌, ◌++◌, length, length-append, Option, None, Some, refl, sym, ap, subst, ◌∙◌, arith, append_assoc}
use Rattle.std.specs.List.{flat_map, AllByRecursion}
use Rattle.tx_bytes.specs.Tells.{Tells, Grows, HasRisen, Gains, Loses, ReadsNext, Writes, Stays}
use Rattle.tx_model.specs.Environment.{Map}
use Rattle.tx_model.specs.Frames.{Request, IsLawful, frame, BreaksAt}
use Rattle.tx_model.specs.Replies.{Reply, Full, BadFrame, Replies, Answers, reply_bytes}
use Rattle.tx_proto.specs.declared.requests.EndBy.{EndBy}
use Rattle.tx_proto.specs.declared.requests.EndBy.TheVariants as end
use Rattle.tx_proto.specs.declared.requests.Got.TheVariants as got
use Rattle.tx_proto.specs.Requests.{AfterRequest, IsAtEnd}
use Rattle.tx_proto.proofs.BreakLemmas.{breaks-behind}
use Rattle.tx_gullet.specs.States.{State}
use Rattle.tx_region.specs.declared.once.Run.{Run}
use Rattle.tx_region.specs.declared.once.Run.TheVariants as run
use Rattle.tx_region.specs.Sessions.{most_regions, Tail, Nothing, ByeLine, Unanswered, Broken, Silent, tail_bytes, tail_replies, due, read_of, BreaksSession, HasCause, Session, IsEnd, IsCut, IsSilent, IsBroken, Writing, HasFault, GoesOn}
use Rattle.tx_proto.specs.declared.replies.Sent.TheVariants as sent
use Rattle.tx_region.specs.Turns.{Serves, AfterClosing}
use Rattle.tx_region.proofs.TellsLemmas.{reads-append, writes-append, writes-nothing, risen-after, stays-same}

append-nothing : (xs : List ℕ) → xs ++ [] ≡ xs
append-nothing [] = refl
append-nothing (x ∷ xs) = ap (λ ys. x ∷ ys) (append-nothing xs)

-- a session that answers no frame
pub alone : (had before : ℕ) (map : Map) (tail : Tail) (input_old input_new old new : Tells) (r : Run) → had ≤ most_regions → ReadsNext input_old (tail_bytes tail) input_new → HasCause had before [] tail input_new → Writing r tail input_new (due [] tail) old new → HasFault r input_old input_new old new → GoesOn had before map input_old input_new old r new
alone had before map tail input_old input_new old new r few reads cause writing fault = record {
  requests = [];
  replies = [];
  tail = tail;
  session = record {
    lawful = tt;
    few = omega arith;
    after = map;
    answers = refl;
    reads = reads;
    cause = cause;
  };
  writing = writing;
  fault = fault;
}

behind-frame : (r : Request) (bytes : List ℕ) (place : ℕ) → IsLawful r → BreaksAt bytes place → BreaksAt (frame r ++ bytes) (length (frame r) + place)
behind-frame r bytes place lawful b =
    subst (λ f. BreaksAt (f ++ bytes) (length f + place)) (append-nothing (frame r)) (breaks-behind (r ∷ []) bytes place (lawful, tt) b)

-- What breaks a session behind a frame breaks the session with it.
breaks-one-more : (r : Request) (before : ℕ) (bytes : List ℕ) (place : ℕ) (input : Tells) → IsLawful r → BreaksSession (before + length (frame r)) bytes place input → BreaksSession before (frame r ++ bytes) place input
breaks-one-more r before bytes place input lawful b = record {
  within = length (frame r) + b.within;
  at = b.at ∙ assoc before (length (frame r)) b.within;
  breaks = behind-frame r bytes b.within lawful b.breaks;
  to = later b.to;
}
  where
    assoc : (x y z : ℕ) → x + y + z ≡ x + (y + z)
    assoc x y z = omega arith

    long : length (frame r ++ bytes) ≡ length (frame r) + length bytes
    long = length-append (frame r) bytes

    later : (length bytes ≡ b.within + 1) ⊎ ((length bytes ≡ b.within) × IsAtEnd input) → (length (frame r ++ bytes) ≡ length (frame r) + b.within + 1) ⊎ ((length (frame r ++ bytes) ≡ length (frame r) + b.within) × IsAtEnd input)
    later (inl e) = inl (omega (arith, long, e))
    later (inr e) = inr (omega (arith, long, e.0), e.1)

cause-one-more : (r : Request) (had before : ℕ) (requests : List Request) (tail : Tail) (input : Tells) → IsLawful r → HasCause (had + 1) (before + length (frame r)) requests tail input → HasCause had before (r ∷ requests) tail input
cause-one-more r had before requests Nothing input lawful c = tt
cause-one-more r had before requests ByeLine input lawful c = tt
cause-one-more r had before requests (Unanswered u) input lawful c = (c.0, omega (arith, c.1))
cause-one-more r had before requests (Broken bytes place) input lawful c =
    subst (λ read. BreaksSession before read place input) (sym (append_assoc (frame r) (flat_map frame requests) bytes))
    (breaks-one-more r before (flat_map frame requests ++ bytes) place input lawful c)
cause-one-more r had before requests (Silent bytes) input lawful c = tt

writing-one-more : (r : Run) (tail : Tail) (input : Tells) (first bytes : List ℕ) (old mid new : Tells) → Writes old first mid → Writing r tail input bytes mid new → Writing r tail input (first ++ bytes) old new
writing-one-more run.Done tail input first bytes old mid new w rest = (rest.0, writes-append old mid new first bytes w rest.1)
writing-one-more (run.Bad n) tail input first bytes old mid new w rest = (rest.0, writes-append old mid new first bytes w rest.1)
writing-one-more run.ReadFault tail input first bytes old mid new w rest = (rest.0, writes-append old mid new first bytes w rest.1)
writing-one-more run.Memory tail input first bytes old mid new w rest = (rest.0, writes-append old mid new first bytes w rest.1)
writing-one-more run.WriteFault tail input first bytes old mid new w rest =
    (first ++ rest.0, rest.1, ap (λ xs. first ++ xs) rest.2 ∙ sym (append_assoc first rest.0 rest.1), writes-append old mid new first rest.0 w rest.3)

fault-one-more : (r : Run) (input_old input_mid input_new old mid new : Tells) → Grows input_old.faults input_mid.faults → Grows old.faults mid.faults → HasFault r input_mid input_new mid new → HasFault r input_old input_new old new
fault-one-more run.Done input_old input_mid input_new old mid new i o f = tt
fault-one-more (run.Bad n) input_old input_mid input_new old mid new i o f = tt
fault-one-more run.ReadFault input_old input_mid input_new old mid new i o f = risen-after input_old.faults input_mid.faults input_new.faults i f
fault-one-more run.WriteFault input_old input_mid input_new old mid new i o f = risen-after old.faults mid.faults new.faults o f
fault-one-more run.Memory input_old input_mid input_new old mid new i o f = tt

-- a session goes on from a frame that was answered as it goes on from the next one
pub one-more : (had before len : ℕ) (map : Map) (input_old input_mid input_new old mid new : Tells) (engine : State) (r : Run) (s : Serves had map input_old input_mid old len engine mid) → GoesOn (had + 1) (before + len) s.after input_mid input_new mid r new → GoesOn had before map input_old input_new old r new
one-more had before len map input_old input_mid input_new old mid new engine r s g =
    let at : GoesOn (had + 1) (before + length (frame s.request)) s.after input_mid input_new mid r new = subst (λ n. GoesOn (had + 1) (before + n) s.after input_mid input_new mid r new) s.long g in
    record {
      requests = s.request ∷ at.requests;
      replies = s.reply ∷ at.replies;
      tail = at.tail;
      session = record {
        lawful = (s.lawful, at.session.lawful);
        few = omega (arith, at.session.few);
        after = at.session.after;
        answers = (s.after, s.replies, at.session.answers);
        reads = subst (λ read. ReadsNext input_old read input_new) (sym (append_assoc (frame s.request) (flat_map frame at.requests) (tail_bytes at.tail))) (reads-append input_old input_mid input_new (frame s.request) (read_of at.requests at.tail) s.reads at.session.reads);
        cause = cause-one-more s.request had before at.requests at.tail input_new s.lawful at.session.cause;
      };
      writing = writing-one-more r at.tail input_new (reply_bytes s.reply) (due at.replies at.tail) old mid new s.writes at.writing;
      fault = fault-one-more r input_old input_mid input_new old mid new s.input_grows s.output_grows at.fault;
    }

-- memory was wanting, and nothing was written
pub wants-memory : (had before : ℕ) (map : Map) (bytes : List ℕ) (input_old input_new old new : Tells) → had ≤ most_regions → ReadsNext input_old bytes input_new → Stays old new → GoesOn had before map input_old input_new old run.Memory new
wants-memory had before map bytes input_old input_new old new few reads stays =
    alone had before map (Silent bytes) input_old input_new old new run.Memory few reads tt (tt, writes-nothing old new stays) tt

-- the last reply of a session
closes : (had before : ℕ) (map : Map) (tail : Tail) (reply : Reply) (input_old input_new old new : Tells) (all r : Run) → had ≤ most_regions → ReadsNext input_old (tail_bytes tail) input_new → HasCause had before [] tail input_new → due [] tail ≡ reply_bytes reply → ((written : Tells) → Writes old (due [] tail) written → Writing all tail input_new (due [] tail) old written) → HasFault all input_old input_new old new → AfterClosing reply old all r new → GoesOn had before map input_old input_new old r new
closes had before map tail reply input_old input_new old new all r few reads cause is ends fault (sent.All, after, e) =
    let whole : Writes old (due [] tail) new = subst (λ bytes. Writes old bytes new) (sym is) after in
    subst (λ x. GoesOn had before map input_old input_new old x new) (sym e)
    (alone had before map tail input_old input_new old new all few reads cause (ends new whole) fault)
closes had before map tail reply input_old input_new old new all r few reads cause is ends fault (sent.WriteFault, after, e) =
    subst (λ x. GoesOn had before map input_old input_new old x new) (sym e)
    (alone had before map tail input_old input_new old new run.WriteFault few reads cause (after.1.0, after.1.1, is ∙ after.1.2, after.1.3) after.0)
closes had before map tail reply input_old input_new old new all r few reads cause is ends fault (sent.Memory, after, e) =
    subst (λ x. GoesOn had before map input_old input_new old x new) (sym e)
    (wants-memory had before map (tail_bytes tail) input_old input_new old new few reads after)

-- a frame finds the session full
pub closes-full : (had before : ℕ) (map : Map) (u : Request) (input_old input_new old new : Tells) (r : Run) → had ≡ most_regions → IsLawful u → ReadsNext input_old (frame u) input_new → AfterClosing Full old run.Done r new → GoesOn had before map input_old input_new old r new
closes-full had before map u input_old input_new old new r full lawful reads after =
    closes had before map (Unanswered u) Full input_old input_new old new run.Done r (omega arith) reads (lawful, omega arith) (append-nothing (reply_bytes Full)) (λ written w. (tt, w)) tt after

-- the input breaks the grammar
pub closes-broken : (had before : ℕ) (map : Map) (bytes : List ℕ) (place : ℕ) (input_old input_new old new : Tells) (r : Run) → had ≤ most_regions → ReadsNext input_old bytes input_new → BreaksSession before bytes place input_new → AfterClosing (BadFrame place) old (run.Bad place) r new → GoesOn had before map input_old input_new old r new
closes-broken had before map bytes place input_old input_new old new r few reads breaks after =
    closes had before map (Broken bytes place) (BadFrame place) input_old input_new old new (run.Bad place) r few reads breaks (append-nothing (reply_bytes (BadFrame place))) (λ written w. (refl, w)) tt after

-- a call of the output failed while a region's reply was written
pub unwritten : (had before : ℕ) (map after : Map) (q : Request) (reply : Reply) (front back : List ℕ) (input_old input_new old new : Tells) → had < most_regions → IsLawful q → Replies map q reply after → ReadsNext input_old (frame q) input_new → reply_bytes reply ≡ front ++ back → Writes old front new → HasRisen old.faults new.faults → GoesOn had before map input_old input_new old run.WriteFault new
unwritten had before map after q reply front back input_old input_new old new few lawful replies reads is writes risen = record {
  requests = q ∷ [];
  replies = reply ∷ [];
  tail = Nothing;
  session = record {
    lawful = (lawful, tt);
    few = omega arith;
    after = after;
    answers = (after, replies, refl);
    reads = subst (λ read. ReadsNext input_old read input_new) (sym (append-nothing (frame q ++ []) ∙ append-nothing (frame q))) reads;
    cause = tt;
  };
  writing = (front, back, append-nothing (reply_bytes reply) ∙ is, writes);
  fault = risen;
}

-- the input was read to its end or to BYE
pub ended : (had before : ℕ) (map : Map) (by : EndBy) (input_old input_new old : Tells) → had ≤ most_regions → AfterRequest input_old before (got.End by) input_new → GoesOn had before map input_old input_new old run.Done old
ended had before map end.Bye input_old input_new old few read =
    alone had before map ByeLine input_old input_new old old run.Done few read tt (tt, writes-nothing old old (stays-same old)) tt
ended had before map end.Bytes input_old input_new old few read =
    alone had before map Nothing input_old input_new old old run.Done few read.0 tt (read.1, writes-nothing old old (stays-same old)) tt

-- a call of the input failed
pub cut : (had before : ℕ) (map : Map) (input_old input_new old : Tells) → had ≤ most_regions → AfterRequest input_old before got.ReadFault input_new → GoesOn had before map input_old input_new old run.ReadFault old
cut had before map input_old input_new old few read =
    alone had before map (Silent read.1.0) input_old input_new old old run.ReadFault few read.1.1 tt (read.1.2, writes-nothing old old (stays-same old)) read.0
