use Rattle.std.proofs.Common.{◌∙◌, ap, Err}
use Rattle.dw_input.specs.Files.{room_after}
use Rattle.dw_input.proofs.Refusals.{MayRefuse-too_long}
use Rattle.dw_input.proofs.files.read_file.Goals as goal

-- the file that is past the limit is the one that is held under the name
pub returns-in-Err-TooLong-clause-refused : goal.returns-in-Err-TooLong-clause-refused
returns-in-Err-TooLong-clause-refused g c held told =
    let stop = c.in-Err-TooLong.is ∙ ap Err c.in-Err-TooLong.field-0-is in
    let long = c.read_file.ensures.too_long held told stop in
    MayRefuse-too_long (room_after c.args.limit c.args.before) c.args.name.now (held c.args.name.now) c.too_long.result (rw (c.as_str.ensures.bytes, c.min-room.ensures) at long) c.too_long.ensures
