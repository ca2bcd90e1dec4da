use Rattle.tx_commands.proofs.define.begun.Goals as goal

pub returns-in-Code-clause-becomes : goal.returns-in-Code-clause-becomes
returns-in-Code-clause-becomes c = rw c.in-Code.is c.code.ensures.becomes
