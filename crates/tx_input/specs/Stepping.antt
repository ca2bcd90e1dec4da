-- What the steps of an input change.
use Rattle.std.specs.Prelude.{◌≡◌, ◌≢◌, ℕ, ◌+◌, List, Some}
use Rattle.tx_tok.specs.declared.tok.Tok.{Tok}
use Rattle.tx_input.specs.declared.input.Input.{Input}
use Rattle.tx_input.specs.declared.input.Taken.{Taken}
use Rattle.tx_input.specs.declared.input.Taken.TheVariants as taken

abbrev pub one_more : Input → Input
one_more input = record input { steps = record input.steps { spent = input.steps.spent + 1 } }

-- after a step was spent for a token, or none was left
abbrev pub AfterStep : Input → Tok → Taken → Input → Type 0
AfterStep old token (taken.Token t) new = (t ≡ token) × (old.steps.spent ≢ old.steps.budget) × (new ≡ one_more old)
AfterStep old token taken.Spent new = (old.steps.spent ≡ old.steps.budget) × (new ≡ old)
AfterStep old token _ new = ⊥

-- after a step was spent for a name with this text, or none was left, or memory was wanting for the text
abbrev pub AfterName : Input → List ℕ → Taken → Input → Type 0
AfterName old text taken.Name new = (old.steps.spent ≢ old.steps.budget) × (new ≡ record (one_more old) { wanted = Some text })
AfterName old text taken.Spent new = (old.steps.spent ≡ old.steps.budget) × (new ≡ old)
AfterName old text taken.Memory new = new ≡ old
AfterName old text _ new = ⊥
