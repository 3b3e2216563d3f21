use Rattle.ei_program.proofs.HeldWindows.{ends_long, ends_refused}
use Rattle.ei_program.proofs.reading.end_at.Goals as goal

pub returns-then-window-lt-WINDOW_BYTES : goal.returns-then-window-lt-WINDOW_BYTES
returns-then-window-lt-WINDOW_BYTES c =
    ends_long c.args.stream.now c.args.fault c.window-window.result.now c.bytes.result.now c.window-window.ensures c.bytes.ensures (c.bytes_ended.ensures.0 c.if-not-bytes_ended.false) c.if-window-bytes.false c.if-window-lt-WINDOW_BYTES.true

pub returns : goal.returns
returns c =
    ends_refused c.args.stream.now c.args.fault c.window-window.result.now c.bytes.result.now c.window-window.ensures c.bytes.ensures (c.bytes_ended.ensures.0 c.if-not-bytes_ended.false) c.if-window-bytes.false c.if-window-lt-WINDOW_BYTES.false c.place-from.result c.place-from.ensures.place
