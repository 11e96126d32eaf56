-- What is printed for an event of a dispatcher's log, with nothing of the code.
--     shown_doing doing    what is printed for what the processor does in a tick
--     shown_event event    what is printed for a call and its answer
use Rattle.dispatcher.specs.Calls as calls
use Rattle.reply.specs.Lines.{Shown, place, withdrawn, idle, starts, goes_on, refuse}

-- `idle`, `starts Q` or `goes-on Q`.
abbrev pub shown_doing : calls.Doing → Shown
shown_doing calls.idle = idle
shown_doing (calls.starts q) = starts q
shown_doing (calls.goes_on q) = goes_on q

-- `place Q`, `withdrawn`, the line of a tick, or `refuse N Q` with the paper's number and place.
abbrev pub shown_event : calls.Event → Shown
shown_event (calls.admitted delay period duration q) = place q
shown_event (calls.withdrawn q) = withdrawn
shown_event (calls.stepped count doing) = shown_doing doing
shown_event (calls.refused call number q) = refuse number q
