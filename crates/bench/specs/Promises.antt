-- What is proved of the numbers that are handed back, a line each; proofs/Promises.antt proves the whole record.
use Rattle.std.specs.Prelude.{ℕ, ◌+◌, ◌<◌, ◌≤◌, ◌≡◌, List, length, Ok, Err}
use Rattle.refusal.specs.declared.Refusal.{Refusal}
use Rattle.refusal.specs.Paper.{none, paper}
use Rattle.table.specs.Row.{Words, capacity}
use Rattle.judge.specs.declared.Verdict.TheVariants.{Refused}
use Rattle.judge.specs.Answer.{verdict}
use Rattle.stored.specs.Answer.{saved, loaded}
use Rattle.file.specs.Answer.{file_verdict}
use Rattle.listing.specs.Layout.{longest_text}
use Rattle.listing.specs.Answer.{imported, exported}
use Rattle.line.specs.Answer.{line_of, written}
use Rattle.dispatcher.specs.History.{place_count}
use Rattle.words.specs.Answer.{admission_in, withdrawal_in, stepping_in}
use Rattle.bench.specs.Answer.{Parts, code, parts, Fits, verdict_parts, verdict_code, value_parts, value_code, withdrawal_parts, withdrawal_code, tick_parts, tick_code, Seen, longest_line}

pub record Promises : Type 0 where
  -- Nothing is lost in a number: what has room in it is what the header's functions take out of it.
  pub code_tells : (p : Parts) → Fits p → parts (code p) ≡ p
  -- So it is with every answer that a call can give.
  pub judge_tells : (row : List ℕ) → parts (verdict_code (verdict row)) ≡ verdict_parts (verdict row)
  pub judge_stored_tells : (bs : List ℕ) → parts (verdict_code (file_verdict bs)) ≡ verdict_parts (file_verdict bs)
  pub line_tells :
      (row : List ℕ) (room : ℕ) → parts (value_code (written (verdict row) room)) ≡ value_parts (written (verdict row) room)
  pub line_stored_tells :
      (bs : List ℕ) (room : ℕ) → parts (value_code (written (file_verdict bs) room)) ≡ value_parts (written (file_verdict bs) room)
  pub save_tells : (row : List ℕ) (room : ℕ) → parts (value_code (saved row room)) ≡ value_parts (saved row room)
  pub load_tells : (bs : List ℕ) (room : ℕ) → parts (value_code (loaded bs room)) ≡ value_parts (loaded bs room)
  pub import_tells : (text : List ℕ) (room : ℕ) → parts (value_code (imported text room)) ≡ value_parts (imported text room)
  pub export_tells : (row : List ℕ) (room : ℕ) → Words row → parts (value_code (exported row room)) ≡ value_parts (exported row room)
  pub admit_tells :
      (ws : List ℕ) (delay period duration : ℕ) →
      parts (value_code (admission_in ws delay period duration).answer) ≡ value_parts (admission_in ws delay period duration).answer
  pub withdraw_tells : (ws : List ℕ) (q : ℕ) → parts (withdrawal_code (withdrawal_in ws q).answer) ≡ withdrawal_parts (withdrawal_in ws q).answer
  pub step_tells :
      (ws : List ℕ) (count : ℕ) → Words ws → parts (tick_code (stepping_in ws count).answer) ≡ tick_parts (stepping_in ws count).answer
  -- Whoever looks at the kind and whoever looks at the refusal's number is told rightly whether the call was refused.
  pub judge_seen : (row : List ℕ) → Seen ((r : Refusal) × (verdict row ≡ Refused r)) (verdict_code (verdict row))
  pub judge_stored_seen : (bs : List ℕ) → Seen ((r : Refusal) × (file_verdict bs ≡ Refused r)) (verdict_code (file_verdict bs))
  pub line_seen :
      (row : List ℕ) (room : ℕ) →
      Seen ((r : Refusal) × (written (verdict row) room ≡ Err r)) (value_code (written (verdict row) room))
  pub line_stored_seen :
      (bs : List ℕ) (room : ℕ) →
      Seen ((r : Refusal) × (written (file_verdict bs) room ≡ Err r)) (value_code (written (file_verdict bs) room))
  pub save_seen : (row : List ℕ) (room : ℕ) → Seen ((r : Refusal) × (saved row room ≡ Err r)) (value_code (saved row room))
  pub load_seen : (bs : List ℕ) (room : ℕ) → Seen ((r : Refusal) × (loaded bs room ≡ Err r)) (value_code (loaded bs room))
  pub import_seen :
      (text : List ℕ) (room : ℕ) → Seen ((r : Refusal) × (imported text room ≡ Err r)) (value_code (imported text room))
  pub export_seen :
      (row : List ℕ) (room : ℕ) → Words row →
      Seen ((r : Refusal) × (exported row room ≡ Err r)) (value_code (exported row room))
  pub admit_seen :
      (ws : List ℕ) (delay period duration : ℕ) →
      Seen ((r : Refusal) × ((admission_in ws delay period duration).answer ≡ Err r))
      (value_code (admission_in ws delay period duration).answer)
  pub withdraw_seen :
      (ws : List ℕ) (q : ℕ) →
      Seen ((r : Refusal) × ((withdrawal_in ws q).answer ≡ Err r)) (withdrawal_code (withdrawal_in ws q).answer)
  pub step_seen :
      (ws : List ℕ) (count : ℕ) → Words ws →
      Seen ((r : Refusal) × ((stepping_in ws count).answer ≡ Err r)) (tick_code (stepping_in ws count).answer)
  -- For a refusal names no train above 64, no line of a verdict is longer than the longest, and a file that is loaded has at most 64
  -- trains. (That what is saved is at most 1,543 bytes long is `save_longest` of the crate stored.)
  pub judge_names : (row : List ℕ) (r : Refusal) → verdict row ≡ Refused r → (paper r).place ≤ none
  pub judge_stored_names : (bs : List ℕ) (r : Refusal) → file_verdict bs ≡ Refused r → (paper r).place ≤ none
  pub save_names : (row : List ℕ) (room : ℕ) (r : Refusal) → saved row room ≡ Err r → (paper r).place ≤ none
  pub load_names : (bs : List ℕ) (room : ℕ) (r : Refusal) → loaded bs room ≡ Err r → (paper r).place ≤ none
  pub export_names : (row : List ℕ) (room : ℕ) (r : Refusal) → exported row room ≡ Err r → (paper r).place ≤ none
  pub line_longest : (row : List ℕ) → length (line_of (verdict row)) ≤ longest_line
  pub line_stored_longest : (bs : List ℕ) → length (line_of (file_verdict bs)) ≤ longest_line
  pub load_few : (bs : List ℕ) (room k : ℕ) → loaded bs room ≡ Ok k → k ≤ capacity
  -- A listing that is imported has at most 64 trains; a refusal names no train above 64 and no record above one more than the bytes of the
  -- longest text. (That what is exported is at most 4,311 bytes long is `export_longest` of the crate listing.)
  pub import_few : (text : List ℕ) (room k : ℕ) → imported text room ≡ Ok k → k ≤ capacity
  pub import_names : (text : List ℕ) (room : ℕ) (r : Refusal) → imported text room ≡ Err r → (paper r).place ≤ longest_text + 1
  -- So with as much room as the longest line has no line is refused.
  pub line_suffices :
      (row : List ℕ) (room : ℕ) → longest_line ≤ room → written (verdict row) room ≡ Ok (length (line_of (verdict row)))
  pub line_stored_suffices :
      (bs : List ℕ) (room : ℕ) → longest_line ≤ room → written (file_verdict bs) room ≡ Ok (length (line_of (file_verdict bs)))
  -- A train is admitted to a place below 64, and the place that a refused admission names is at most 64.
  pub admit_place :
      (ws : List ℕ) (delay period duration q : ℕ) → (admission_in ws delay period duration).answer ≡ Ok q → q < place_count
  pub admit_names :
      (ws : List ℕ) (delay period duration : ℕ) (r : Refusal) →
      (admission_in ws delay period duration).answer ≡ Err r → (paper r).place ≤ none
