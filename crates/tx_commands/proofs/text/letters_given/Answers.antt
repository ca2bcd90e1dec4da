use Rattle.tx_commands.proofs.text.letters_given.Goals as goal

pub returns-then-braced-clause-becomes : goal.returns-then-braced-clause-becomes
returns-then-braced-clause-becomes c = rw c.if-braced.true c.letters_text_given.ensures.becomes

pub returns-else-braced-clause-becomes : goal.returns-else-braced-clause-becomes
returns-else-braced-clause-becomes c = rw c.if-braced.false c.letters_brace_given.ensures.becomes
