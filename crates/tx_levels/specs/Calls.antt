-- What a call makes of the list of whole maps.
use Rattle.std.specs.Prelude.{◌==◌, length, if◌then◌else◌}
use Rattle.tx_levels.specs.declared.call.Call.{Call}
use Rattle.tx_levels.specs.declared.call.Call.TheVariants as call
use Rattle.tx_levels.specs.Levels.{Levels, begun, assigned, closed, kept, undone}

-- A group is begun at all levels but 255; one is ended where one is open; and a region is kept only where
-- none is open.
abbrev pub after : Call → Levels → Levels
after call.Begin levels = if length levels.outer == 254 then levels else begun levels
after (call.Assign at n global) levels = assigned global at n levels
after call.Close levels = closed levels
after call.Keep levels = if length levels.outer == 0 then kept levels else levels
after call.Undo levels = undone levels
