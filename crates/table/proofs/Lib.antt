-- The laws of table. Promises gathers what specs/Promises.antt states; callers cite the others.
--     Entries             the entries of a row: how many there are, and where each stands
--     Checks              the ways through the checks, and the loop over the trains
--     InOrder             when an outcome follows an order of checks
--     Following           refusals 1 to 4 follow the paper's order
--     RunningMultiple     the running multiple, and its loop
--     Ticking             times in ticks, and the loop that fills the table
--     Limits              refusals 5 and 6 follow the order, and so all of a table's
--     Readings            the whole reading, and what a table is that passes
--     Numbers             outcomes in the paper's numbers
--     Terms               the terms of the fractions make no difference
--     Rows                trains that are written as a row
pub mod Entries
pub mod Checks
pub mod InOrder
pub mod Following
pub mod RunningMultiple
pub mod Ticking
pub mod Limits
pub mod Readings
pub mod Numbers
pub mod Terms
pub mod Rows
pub mod Promises
