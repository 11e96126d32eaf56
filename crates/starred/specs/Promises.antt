-- What is proved of the bench sheet; proofs/Promises.antt proves the whole record.
use Rattle.std.specs.Prelude.{◌≡◌, map, length, replicate, Ok}
use Rattle.judge.specs.Paper.{accept, paper}
use Rattle.judge.specs.Answer.{verdict}
use Rattle.stored.specs.Answer.{saved, saved_in}
use Rattle.file.specs.Answer.{file_verdict}
use Rattle.dispatcher.specs.Answer.{fresh}
use Rattle.dispatcher.specs.Played.{log_of}
use Rattle.starred.specs.Sheet.{Line, sheet, thirteenths, thirteenths_bytes, paragraph, answers}

pub record Promises : Type 0 where
  -- The starred rows of the bench sheet, one list, one theorem: the verdict on every row is the printed one.
  pub sheet_judged : map (λ (line : Line). paper (verdict line.row)) sheet ≡ map (λ (line : Line). line.shown) sheet
  -- The 36/13 table is stored in these 55 bytes; given them, the verdict is `accept 13 1`.
  pub sheet_stored :
      (saved thirteenths 55 ≡ Ok (length thirteenths_bytes))
      × (saved_in (Ok 55) thirteenths (replicate 55 0) ≡ thirteenths_bytes)
  pub sheet_file : paper (file_verdict thirteenths_bytes) ≡ accept 13 1
  -- The dispatcher's paragraph: the calls are answered as printed.
  pub sheet_played : log_of (fresh 4_294_967_295) paragraph ≡ answers
