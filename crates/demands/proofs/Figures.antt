-- The figures hold, by computation.
use mathlib.Core.Path.{refl}
use Rattle.arithmetic.specs.Modulo.{◌modulo◌}
use Rattle.arithmetic.specs.TwosComplement.{signed, difference}
use Rattle.timestamp.specs.Timestamp.{◌since◌, has_no_order}
use Rattle.offset.specs.Offset.{floor_half, half_of, offset_tests, measured}
use Rattle.extension.specs.Reading.{ends_fields, reading, is_malformed}
use Rattle.packet.specs.Packet.{fields_of}
use Rattle.calendar.specs.Gregorian.{leap_days, year_days, month_days, before, last}
use Rattle.calendar.specs.Dates.{days_to, seconds_to, year_on, day_of_year, month_on, day_of_month, date_at}
use Rattle.calendar.specs.Calendar.{start1900, start2036, seconds_at, date_of}
use Rattle.precision.specs.Precision.{least}
use Rattle.poll.specs.Poll.{too_soon}
use Rattle.client.specs.Record.{illegal}
use Rattle.client.specs.Ask.{ask_tests, after_ask}
use Rattle.client.specs.Arrival.{arrival_answer, arrived}
use Rattle.reply_checks.specs.Checks.{waiting_tests, check_tests}
use Rattle.demands.specs.Figures.{done, ◌and◌, figures, Figures}

pub figures_hold : Figures
unfolding figures measured offset_tests floor_half half_of ◌since◌ has_no_order difference signed ◌modulo◌ date_of date_at year_on day_of_year month_on day_of_month seconds_at start1900 start2036 seconds_to days_to before last year_days month_days leap_days least after_ask ask_tests illegal too_soon arrived arrival_answer waiting_tests check_tests is_malformed reading ends_fields fields_of
figures_hold =
    refl
    and refl
    and refl
    and refl
    and refl
    and refl
    and refl
    and refl
    and refl
    and refl
    and refl
    and refl
    and done
