use Rattle.std.proofs.Common.{◌<◌, ◌≤◌, length, take, drop, [], sym, ◌∙◌, arith}
use Rattle.tx_macro.specs.declared.rule.Misuse.TheVariants as misuse
use Rattle.tx_macro.proofs.MatchingLemmas.{argument_left, waits_there, waits-at, waits-fresh, says-open, says-more, says-wrong, says-ended, says-same, waits-same, answers-progress, is_found}
use Rattle.tx_macro.proofs.macro_match.MacroMatch.feed_argument.Goals as goal

pub index-requires : goal.index-requires
index-requires c = omega (arith, argument_left c.args.self.now (omega arith) c.requires.open)

pub feed-requires : goal.feed-requires
feed-requires c =
    let m = c.args.self.now in
    waits_there m c.as_slice-delimiter.result.now (argument_left m (omega arith) c.requires.open) (is_found m.delimiters.items m.found c.index.result.now c.as_slice-delimiter.result.now c.index.ensures c.as_slice-delimiter.ensures) c.requires.open

pub end_argument-requires : goal.end_argument-requires
end_argument-requires c = omega (arith, argument_left c.args.self.now (omega arith) c.requires.open)

pub returns-in-More : goal.returns-in-More
returns-in-More c =
    let m = c.args.self.now in
    let first : length m.first.items ≤ m.matched = omega arith in
    let left : m.found < length m.delimiters.items = argument_left m first c.requires.open in
    let is = is_found m.delimiters.items m.found c.index.result.now c.as_slice-delimiter.result.now c.index.ensures c.as_slice-delimiter.ensures in
    let d = c.as_slice-delimiter.result.now in (
      λ later. says-more m.rule m.first.items m.matched (take m.found m.arguments.items) m.delimiters.items m.found d m.current c.feed.new.self c.args.t later first left is (c.in-More.ensures.0 later),
      (
        says-open m.rule m.first.items m.matched (take m.found m.arguments.items) m.delimiters.items m.found d c.feed.new.self first left is c.in-More.ensures.1,
        waits-at m.rule m.delimiters.items m.found d c.feed.new.self left is c.in-More.ensures.1 c.in-More.ensures.2,
      ),
    )

pub returns-in-Wrong-NoMatch : goal.returns-in-Wrong-NoMatch
returns-in-Wrong-NoMatch c =
    let m = c.args.self.now in
    let first : length m.first.items ≤ m.matched = omega arith in
    let left : m.found < length m.delimiters.items = argument_left m first c.requires.open in
    let is = is_found m.delimiters.items m.found c.index.result.now c.as_slice-delimiter.result.now c.index.ensures c.as_slice-delimiter.ensures in
    let wrong = rw c.in-Wrong-NoMatch.field-0-is at c.in-Wrong-NoMatch.ensures in
    λ later. says-wrong m.rule m.first.items m.matched (take m.found m.arguments.items) m.delimiters.items m.found c.as_slice-delimiter.result.now m.current c.args.t later misuse.NoMatch first left is (wrong later)

pub returns-in-Wrong-ParEnded : goal.returns-in-Wrong-ParEnded
returns-in-Wrong-ParEnded c =
    let m = c.args.self.now in
    let first : length m.first.items ≤ m.matched = omega arith in
    let left : m.found < length m.delimiters.items = argument_left m first c.requires.open in
    let is = is_found m.delimiters.items m.found c.index.result.now c.as_slice-delimiter.result.now c.index.ensures c.as_slice-delimiter.ensures in
    let wrong = rw c.in-Wrong-ParEnded.field-0-is at c.in-Wrong-ParEnded.ensures in
    λ later. says-wrong m.rule m.first.items m.matched (take m.found m.arguments.items) m.delimiters.items m.found c.as_slice-delimiter.result.now m.current c.args.t later misuse.ParEnded first left is (wrong later)

pub returns-in-Wrong-ExtraBrace : goal.returns-in-Wrong-ExtraBrace
returns-in-Wrong-ExtraBrace c =
    let m = c.args.self.now in
    let first : length m.first.items ≤ m.matched = omega arith in
    let left : m.found < length m.delimiters.items = argument_left m first c.requires.open in
    let is = is_found m.delimiters.items m.found c.index.result.now c.as_slice-delimiter.result.now c.index.ensures c.as_slice-delimiter.ensures in
    let wrong = rw c.in-Wrong-ExtraBrace.field-0-is at c.in-Wrong-ExtraBrace.ensures in
    λ later. says-wrong m.rule m.first.items m.matched (take m.found m.arguments.items) m.delimiters.items m.found c.as_slice-delimiter.result.now m.current c.args.t later misuse.ExtraBrace first left is (wrong later)

pub progress-requires : goal.progress-requires
progress-requires c = waits-fresh _ _ _ c.end_argument.ensures.fresh

pub returns-in-Memory : goal.returns-in-Memory
returns-in-Memory c =
    let m = c.args.self.now in
    let same = says-same m.rule m.first.items m.matched (take m.found m.arguments.items) (drop m.found m.delimiters.items) m.current c.feed.new.self c.in-Memory.ensures.0 c.in-Memory.ensures.1 in
    (same, (sym (same []) ∙ c.requires.open.0, waits-same m.rule (drop m.found m.delimiters.items) m.current c.feed.new.self c.in-Memory.ensures.0 c.in-Memory.ensures.1 c.requires.open.1))

pub returns-in-Ended : goal.returns-in-Ended
returns-in-Ended c =
    let m = c.args.self.now in
    let first : length m.first.items ≤ m.matched = omega arith in
    let left : m.found < length m.delimiters.items = argument_left m first c.requires.open in
    let slot : m.found < length m.arguments.items = omega arith in
    let is = is_found m.delimiters.items m.found c.index.result.now c.as_slice-delimiter.result.now c.index.ensures c.as_slice-delimiter.ensures in
    let e = c.end_argument.ensures in
    answers-progress m c.args.t c.progress.result c.end_argument.new.self
    (λ later. rw (e.rule, e.first, e.matched, e.arguments, e.delimiters, e.found) (says-ended m.rule m.first.items m.matched m.arguments.items m.delimiters.items m.found c.as_slice-delimiter.result.now m.current c.end_argument.new.self.current c.feed.new.self.taken.items c.args.t later first left slot is e.fresh (c.in-Ended.ensures later)))
    c.progress.ensures
