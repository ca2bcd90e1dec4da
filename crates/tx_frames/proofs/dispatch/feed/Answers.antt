use Rattle.std.proofs.Common.{sym, subst}
use Rattle.tx_frames.specs.Answers.{BecomesGiven}
use Rattle.tx_frames.specs.Knowledge.{KnowsFrame}
use Rattle.tx_frames.proofs.dispatch.feed.Goals as goal

pub returns-in-LeftBrace-clause-becomes : goal.returns-in-LeftBrace-clause-becomes
returns-in-LeftBrace-clause-becomes c view w =
    subst (λ f. BecomesGiven view f c.args.item w c.brace_given.result) (sym c.in-LeftBrace.is) (c.brace_given.ensures.becomes view w)

pub returns-in-Equals-clause-becomes : goal.returns-in-Equals-clause-becomes
returns-in-Equals-clause-becomes c view w =
    subst (λ f. BecomesGiven view f c.args.item w c.equals_given.result) (sym c.in-Equals.is) (c.equals_given.ensures.becomes view w)

pub returns-in-Scan-clause-becomes : goal.returns-in-Scan-clause-becomes
returns-in-Scan-clause-becomes c view w =
    subst (λ f. BecomesGiven view f c.args.item w c.scan_given.result) (sym c.in-Scan.is) (c.scan_given.ensures.becomes view w)

pub returns-in-Quantity-clause-becomes : goal.returns-in-Quantity-clause-becomes
returns-in-Quantity-clause-becomes c view w =
    subst (λ f. BecomesGiven view f c.args.item w c.quantity_given.result) (sym c.in-Quantity.is) (c.quantity_given.ensures.becomes view w)

pub returns-in-Text-clause-becomes : goal.returns-in-Text-clause-becomes
returns-in-Text-clause-becomes c view w =
    subst (λ f. BecomesGiven view f c.args.item w c.text_given.result) (sym c.in-Text.is) (c.text_given.ensures.becomes view w)

pub returns-in-List-clause-becomes : goal.returns-in-List-clause-becomes
returns-in-List-clause-becomes c view w =
    subst (λ f. BecomesGiven view f c.args.item w c.list_given.result) (sym c.in-List.is) (c.list_given.ensures.becomes view w)

pub returns-in-Expansion-clause-becomes : goal.returns-in-Expansion-clause-becomes
returns-in-Expansion-clause-becomes c view w =
    subst (λ f. BecomesGiven view f c.args.item w c.expansion_given.result) (sym c.in-Expansion.is) (c.expansion_given.ensures.becomes view w)

pub returns-in-LeftBrace-clause-knows : goal.returns-in-LeftBrace-clause-knows
returns-in-LeftBrace-clause-knows c known f i = c.brace_given.ensures.knows known

pub returns-in-Equals-clause-knows : goal.returns-in-Equals-clause-knows
returns-in-Equals-clause-knows c known f i = c.equals_given.ensures.knows known i

pub returns-in-Scan-clause-knows : goal.returns-in-Scan-clause-knows
returns-in-Scan-clause-knows c known f i = let s = (subst (λ x. KnowsFrame known x) c.in-Scan.is f) in c.scan_given.ensures.knows known s.0 s.1 i

pub returns-in-Quantity-clause-knows : goal.returns-in-Quantity-clause-knows
returns-in-Quantity-clause-knows c known f i = c.quantity_given.ensures.knows known

pub returns-in-Text-clause-knows : goal.returns-in-Text-clause-knows
returns-in-Text-clause-knows c known f i = c.text_given.ensures.knows known (subst (λ x. KnowsFrame known x) c.in-Text.is f) i

pub returns-in-List-clause-knows : goal.returns-in-List-clause-knows
returns-in-List-clause-knows c known f i = c.list_given.ensures.knows known i

pub returns-in-Expansion-clause-knows : goal.returns-in-Expansion-clause-knows
returns-in-Expansion-clause-knows c known f i = c.expansion_given.ensures.knows known i
