use Rattle.std.proofs.Common.{◌≡◌, ◌+◌, ◌/◌, ◌%◌, arith, refl}
use Rattle.sysapi_base.proofs.moment.text.time_text.Goals as goal

pub returns : goal.returns
returns c =
    let millis = c.args.millis in
    let hundreds : c.digit-7.result ≡ 48 + millis % 1000 / 10 / 10 % 10 = omega (arith, c.digit-7.ensures) in
    let tens : c.digit-8.result ≡ 48 + millis % 1000 / 10 % 10 = omega (arith, c.digit-8.ensures) in
    let ones : c.digit-9.result ≡ 48 + millis % 1000 % 10 = omega (arith, c.digit-9.ensures) in
    rw (c.digit.ensures, c.digit-2.ensures, c.digit-3.ensures, c.digit-4.ensures, c.digit-5.ensures, c.digit-6.ensures, hundreds, tens, ones) refl
