use Rattle.tx_quant.specs.Items.{Token}
use Rattle.tx_quant.specs.Keywords.{due_of}
use Rattle.tx_quant.proofs.SpellingLemmas.{spell_more}
use Rattle.tx_quant.proofs.looking.go_on.Goals as goal

pub returns-in-Due-clause-keyword : goal.returns-in-Due-clause-keyword
returns-in-Due-clause-keyword c = λ found missing items.
    spell_more found missing (due_of c.args.part) c.args.part.taken (Token c.args.t) c.in-Due.more items (rw (← c.letter.ensures) c.in-Due.ensures.0) c.in-Due.ensures.1

pub returns-in-Due-clause-glue : goal.returns-in-Due-clause-glue
returns-in-Due-clause-glue c = λ found missing items.
    spell_more found missing (due_of c.args.part) c.args.part.taken (Token c.args.t) c.in-Due.more items (rw (← c.letter.ensures) c.in-Due.ensures.0) c.in-Due.ensures.1
