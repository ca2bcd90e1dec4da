-- What is due tells what is about to be done.
use Rattle.std.proofs.Common.{◌≡◌, ℕ, List, [], ◌∷◌, Option, Some, None, IsSome, is_some, IsSomeAnd, refl, sym, ap, subst}
use Rattle.tx_tok.specs.declared.tok.Tok.{Tok}
use Rattle.tx_tok.specs.declared.tok.Tok.TheVariants as tok
use Rattle.tx_node.specs.declared.BoxNode.{BoxNode}
use Rattle.tx_eqtb.specs.Meanings.{Map}
use Rattle.tx_describe.specs.declared.rest.Wanted.{Wanted}
use Rattle.tx_describe.specs.declared.rest.Wanted.TheVariants as wanted
use Rattle.tx_describe.specs.Descriptions.{wants}
use Rattle.tx_input.specs.Worlds.{AllKnown}
use Rattle.tx_input.specs.Takings.{limit_in}
use Rattle.tx_frames.specs.Knowledge.{Known, KnowsTokens}
use Rattle.tx_scene.specs.declared.scene.Scene.{Scene}
use Rattle.tx_run.specs.declared.doing.Doing.{Doing}
use Rattle.tx_run.specs.declared.doing.Doing.TheVariants as doing
use Rattle.tx_run.specs.declared.op.Op.{Op}
use Rattle.tx_run.specs.declared.op.Op.TheVariants as op
use Rattle.tx_run.specs.Runs.{asked_for, asked_by, asked_after, shared_tokens, IsForText, IsForList, IsSoundFor}
use Rattle.tx_run.specs.Knowledge.{KnowsDoing}
use Rattle.tx_engine.specs.Steps.{IsRefusable}

-- what may be refused is asked for by what is about to be done
pub refusable-asked : (f : Option ℕ) (d : Doing) (o : Op) → asked_after f d ≡ Some o → IsRefusable o → IsSome (asked_by d)
refusable-asked None d o e refusable = ap (λ (x : Option Op). is_some x) e
refusable-asked (Some id) d o e refusable = absurd (subst (λ x. IsSomeAnd x IsRefusable) (sym e) refusable)

pub text-number : (o : Option Op) → IsSomeAnd o IsForText → (n : ℕ) × (o ≡ Some (op.Text n))
text-number (Some (op.Text n)) h = (n, refl)
text-number (Some _) h = absurd h
text-number None h = absurd h

pub list-number : (o : Option Op) → IsSomeAnd o IsForList → (id : ℕ) × (o ≡ Some (op.Read id))
list-number (Some (op.Read id)) h = (id, refl)
list-number (Some _) h = absurd h
list-number None h = absurd h

-- a description asks for no more than a text or a content
finds-not : (o : Option Wanted) → asked_for o ≡ Some op.Find → ⊥
finds-not None e = cc
finds-not (Some (wanted.Text n)) e = cc
finds-not (Some (wanted.Content id)) e = cc
finds-not (Some (wanted.Frozen k)) e = cc

interns-not : (o : Option Wanted) → asked_for o ≡ Some op.Intern → ⊥
interns-not None e = cc
interns-not (Some (wanted.Text n)) e = cc
interns-not (Some (wanted.Content id)) e = cc
interns-not (Some (wanted.Frozen k)) e = cc

releases-not : (o : Option Wanted) (id : ℕ) → asked_for o ≡ Some (op.Release id) → ⊥
releases-not None id e = cc
releases-not (Some (wanted.Text n)) id e = cc
releases-not (Some (wanted.Content k)) id e = cc
releases-not (Some (wanted.Frozen k)) id e = cc

-- where a name's number is asked for, its text is there
pub found-wanted : (f : Option ℕ) (d : Doing) (frozen : Map BoxNode) (s : Scene) → asked_after f d ≡ Some op.Find → IsSoundFor frozen d s → IsSome s.input.wanted
found-wanted (Some id) d frozen s e sound = absurd cc
found-wanted None (doing.Finds who) frozen s e sound = sound.1
found-wanted None (doing.Prints b d) frozen s e sound = absurd (finds-not (wants d) e)
found-wanted None (doing.Tells what d) frozen s e sound = absurd (finds-not (wants d) e)
found-wanted None _ frozen s e sound = absurd cc

-- the same, and there is room for one more
pub interned-wanted : (f : Option ℕ) (d : Doing) (frozen : Map BoxNode) (s : Scene) → asked_after f d ≡ Some op.Intern → IsSoundFor frozen d s → IsSome s.input.wanted × (limit_in s.input ≡ None)
interned-wanted (Some id) d frozen s e sound = absurd cc
interned-wanted None (doing.Interns who) frozen s e sound = (sound.1, sound.2)
interned-wanted None (doing.Prints b d) frozen s e sound = absurd (interns-not (wants d) e)
interned-wanted None (doing.Tells what d) frozen s e sound = absurd (interns-not (wants d) e)
interned-wanted None _ frozen s e sound = absurd cc

-- a release is for what has fallen away
pub released-fallen : (f : Option ℕ) (d : Doing) (id : ℕ) → asked_after f d ≡ Some (op.Release id) → f ≡ Some id
released-fallen (Some n) d id e = cc
released-fallen None (doing.Prints b d) id e = absurd (releases-not (wants d) id e)
released-fallen None (doing.Tells what d) id e = absurd (releases-not (wants d) id e)
released-fallen None _ id e = absurd cc

-- the tokens of a list that is to be shared are known
known-tokens : (known : Known) (ts : List Tok) → KnowsTokens known ts → AllKnown known.name ts
known-tokens known [] h = tt
known-tokens known (tok.Name n ∷ ts) h = (h.0, known-tokens known ts h.1)
known-tokens known (tok.Char c b ∷ ts) h = (tt, known-tokens known ts h.1)
known-tokens known (tok.Active b ∷ ts) h = (tt, known-tokens known ts h.1)
known-tokens known (tok.Param n ∷ ts) h = (tt, known-tokens known ts h.1)
known-tokens known (tok.Stop ∷ ts) h = (tt, known-tokens known ts h.1)

pub shared-known : (known : Known) (d : Doing) (tokens : List Tok) → shared_tokens d ≡ Some tokens → KnowsDoing known d → AllKnown known.name tokens
shared-known known (doing.Shares p place what ts) tokens e knows = subst (λ (o : Option (List Tok)). IsSomeAnd o (λ x. AllKnown known.name x)) e (known-tokens known ts knows.1)
shared-known known _ tokens e knows = absurd cc
