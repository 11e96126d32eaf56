-- What the private functions promise. No public contract cites this file, and no caller need read it.
--     shown_of printed    what the code prints, as one of the printed lines
use Rattle.reply.specs.declared.Printed.{Printed}
use Rattle.reply.specs.declared.Printed.TheVariants as printed
use Rattle.reply.specs.Lines.{Shown, fresh, place, withdrawn, bad}
use Rattle.reply.specs.Answer.{shown_refusal, shown_in_tick}

-- The line of what is printed, with the paper's number and place of a refusal.
abbrev pub shown_of : Printed → Shown
shown_of printed.Bad = bad
shown_of printed.Fresh = fresh
shown_of (printed.Place q) = place q
shown_of printed.Withdrawn = withdrawn
shown_of (printed.Tick tick) = shown_in_tick tick
shown_of (printed.Refuse r) = shown_refusal r
