-- What feeding an argument answers, from what its parts answer.
use Rattle.std.proofs.Common.{◌≡◌, ◌<◌, List, [], ◌∷◌, length, ◌∙◌, arith}
use Rattle.tx_tok.specs.declared.tok.Tok.{Tok}
use Rattle.tx_macro.specs.declared.argument.Argument.{Argument}
use Rattle.tx_macro.specs.declared.argument.Step.{Step}
use Rattle.tx_macro.specs.declared.argument.Step.TheVariants as step
use Rattle.tx_macro.specs.declared.rule.Rule.{Rule}
use Rattle.tx_macro.specs.Outcome.{Piece}
use Rattle.tx_macro.specs.Matching.{undelimited_piece, delimited_piece, TakesBy, SettlesBy, Takes}

pub takes-settles : (piece_of : Argument → List Tok → Piece) (delimiter : List Tok) (old : Argument) (added : List Tok → Piece) (t : Tok) (s : Step) (new : Argument) → ((later : List Tok) → piece_of old (t ∷ later) ≡ added later) → SettlesBy piece_of delimiter added s new → TakesBy piece_of delimiter old t s new
takes-settles piece_of delimiter old added t step.More new same h = (λ later. same later ∙ h.0 later, h.1, h.2)
takes-settles piece_of delimiter old added t step.Ended new same h = λ later. same later ∙ h later
takes-settles piece_of delimiter old added t (step.Wrong e) new same h = λ later. same later ∙ h later
takes-settles piece_of delimiter old added t step.Memory new same h = absurd h

pub takes-undelimited : (rule : Rule) (delimiter : List Tok) (old : Argument) (t : Tok) (s : Step) (new : Argument) → length delimiter ≡ 0 → TakesBy (undelimited_piece rule) [] old t s new → Takes rule delimiter old t s new
takes-undelimited rule [] old t s new e h = h
takes-undelimited rule (p ∷ delimiter) old t s new e h = absurd (omega arith)

pub takes-delimited : (rule : Rule) (delimiter : List Tok) (old : Argument) (t : Tok) (s : Step) (new : Argument) → 0 < length delimiter → TakesBy (delimited_piece rule delimiter) delimiter old t s new → Takes rule delimiter old t s new
takes-delimited rule [] old t s new e h = absurd (omega arith)
takes-delimited rule (p ∷ delimiter) old t s new e h = h
