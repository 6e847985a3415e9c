-- What the drivers show: what each holds, and the units of its code.
use Rattle.enc_drivers.specs.declared.code.Code.{Ghosts}
use Rattle.enc_drivers.specs.declared.drivers.euc_jp.EucJpDriver.{EucJpDriver}
use Rattle.enc_drivers.specs.declared.drivers.gb18030.Gb18030Driver.{Gb18030Driver}
use Rattle.enc_drivers.specs.declared.drivers.general.GeneralDriver.{GeneralDriver}
use Rattle.enc_drivers.specs.declared.drivers.two_byte.TwoByteDriver.{TwoByteDriver}
use Rattle.enc_drivers.specs.Front.{front_bytes}
use Rattle.enc_drivers.specs.Resume.{Standing}
use Rattle.enc_drivers.specs.Units.{Code}

abbrev pub standing : {C : Type 0} {g : Ghosts C} → GeneralDriver C g → Standing
standing driver = record { held = front_bytes driver.held; mode = driver.mode }

abbrev pub unit_of : {C : Type 0} {g : Ghosts C} → GeneralDriver C g → Code
unit_of {g} driver = g.unit driver.code

abbrev pub two_byte_standing : {C : Type 0} {g : Ghosts C} → TwoByteDriver C g → Standing
two_byte_standing driver = standing driver.driver

abbrev pub two_byte_unit : {C : Type 0} {g : Ghosts C} → TwoByteDriver C g → Code
two_byte_unit driver = unit_of driver.driver

abbrev pub gb18030_standing : {C : Type 0} {g : Ghosts C} → Gb18030Driver C g → Standing
gb18030_standing driver = standing driver.driver

abbrev pub gb18030_unit : {C : Type 0} {g : Ghosts C} → Gb18030Driver C g → Code
gb18030_unit driver = unit_of driver.driver

abbrev pub euc_jp_standing : {C : Type 0} {g : Ghosts C} → EucJpDriver C g → Standing
euc_jp_standing driver = standing driver.driver

abbrev pub euc_jp_unit : {C : Type 0} {g : Ghosts C} → EucJpDriver C g → Code
euc_jp_unit driver = unit_of driver.driver
