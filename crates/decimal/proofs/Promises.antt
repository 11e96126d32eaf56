-- The proof of what specs/Promises.antt states.
-- Assumes nothing.
use mathlib.Core.Path.{refl}
use Rattle.decimal.specs.Answer.{leading_within, decimal}
use Rattle.decimal.specs.Promises.{Promises}
use Rattle.decimal.proofs.Notation.{decimal_is, decimal_only, decimal_u32, decimal_u64}
use Rattle.decimal.proofs.Numbers.{number_exactly, front_exactly, read_back}
use Rattle.decimal.proofs.Ways.{read_index}

pub promises : Promises
unfolding leading_within decimal
promises =
    record {
      decimal_is = decimal_is;
      decimal_only = decimal_only;
      decimal_fits_32 = decimal_u32;
      decimal_fits_64 = decimal_u64;
      decimal_reaches_32 = refl;
      decimal_reaches_64 = refl;
      number_exactly = number_exactly;
      front_exactly = front_exactly;
      read_back = read_back;
      read_index = read_index;
    }
