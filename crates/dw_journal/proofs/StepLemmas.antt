-- Steps make events that follow and are legal.
use Rattle.std.proofs.Common.{List}
use Rattle.dw_journal.specs.declared.Event.{Event}
use Rattle.dw_journal.specs.declared.Shape.{Shape}
use Rattle.dw_journal.specs.declared.World.{World}
use Rattle.dw_journal.specs.Follows.{EachFollows, refreshes}
use Rattle.dw_journal.specs.Legal.{EachIsLegal}
use Rattle.dw_journal.specs.Driven.{Move, Step, nothing, event, refresh, Steps, none, more}

-- one step keeps both
pub EachFollows-step : (shape : Shape) (world : World) {move : Move} {older newer : List Event}
    → Step shape world move older newer → EachFollows shape world older → EachFollows shape world newer
EachFollows-step shape world (nothing still) h = h
EachFollows-step shape world (event next is_of comes) h = (comes.0, h)
EachFollows-step shape world (refresh stamp legal) h = (refreshes, h)

pub EachIsLegal-step : (shape : Shape) (world : World) {move : Move} {older newer : List Event}
    → Step shape world move older newer → EachIsLegal shape world older → EachIsLegal shape world newer
EachIsLegal-step shape world (nothing still) h = h
EachIsLegal-step shape world (event next is_of comes) h = (comes.1, h)
EachIsLegal-step shape world (refresh stamp legal) h = (legal, h)

-- so all the events of any steps follow and are legal
pub EachFollows-steps : (shape : Shape) (world : World) {moves : List Move} {events : List Event}
    → Steps shape world moves events → EachFollows shape world events
EachFollows-steps shape world none = tt
EachFollows-steps shape world (more earlier last) = EachFollows-step shape world last (EachFollows-steps shape world earlier)

pub EachIsLegal-steps : (shape : Shape) (world : World) {moves : List Move} {events : List Event}
    → Steps shape world moves events → EachIsLegal shape world events
EachIsLegal-steps shape world none = tt
EachIsLegal-steps shape world (more earlier last) = EachIsLegal-step shape world last (EachIsLegal-steps shape world earlier)
