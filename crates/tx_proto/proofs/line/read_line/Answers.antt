use Rattle.std.proofs.Common.{arith}
use Rattle.tx_proto.proofs.PartLemmas.{length-front}
use Rattle.tx_proto.proofs.LineLemmas.{header-read, broken-read, ended-read, failed-read}
use Rattle.tx_proto.proofs.line.read_line.Goals as goal

pub overflow_add-place : goal.overflow_add-place
overflow_add-place g c = let short = length-front c.bytes.state c.bytes.invariant.sound in omega (arith, short, c.bytes.invariant.at)

pub bytes-smaller : goal.bytes-smaller
bytes-smaller g c = let short = length-front c.bytes.state c.bytes.invariant.sound in omega (arith, short, c.bytes.invariant.at)

pub overflow_add-size : goal.overflow_add-size
overflow_add-size g c = let short = length-front c.bytes.state c.bytes.invariant.sound in omega (arith, short, c.bytes.invariant.at)

pub returns-in-Header-clause-line : goal.returns-in-Header-clause-line
returns-in-Header-clause-line g c =
    header-read c.bytes.state c.in-Byte.byte c.bytes.place c.in-Header.budget c.in-Header.length _ _ _ c.bytes.invariant.sound c.bytes.invariant.at c.bytes.invariant.next c.in-Byte.ensures.one c.in-Header.ensures

pub returns-in-Broken-clause-line : goal.returns-in-Broken-clause-line
returns-in-Broken-clause-line g c =
    broken-read c.bytes.state c.in-Byte.byte c.bytes.place _ _ _ c.bytes.invariant.sound c.bytes.invariant.at c.bytes.invariant.next c.in-Byte.ensures.one c.in-Broken.ensures

pub returns-in-End-clause-line : goal.returns-in-End-clause-line
returns-in-End-clause-line g c =
    ended-read c.bytes.state c.bytes.place _ _ _ c.bytes.invariant.sound c.bytes.invariant.at c.if-place-eq0.false c.bytes.invariant.next c.in-End.ensures.one

pub returns-in-ReadFault-clause-line : goal.returns-in-ReadFault-clause-line
returns-in-ReadFault-clause-line g c =
    failed-read c.bytes.state _ _ _ c.bytes.invariant.sound c.bytes.invariant.grows c.bytes.invariant.next c.in-ReadFault.ensures.one
