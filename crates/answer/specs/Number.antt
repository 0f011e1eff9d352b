-- The number of each refusal (7.1).
use Rattle.std.specs.Prelude.{ℕ}
use Rattle.answer.specs.declared.Refusal.{Refusal}
use Rattle.answer.specs.declared.Refusal.TheVariants.{NoCall, OutsideLimits, TooShort, NotSound, NoSuchPage, NoSuchKind, NoLog, NoSuchRecord, WrongState}
use Rattle.answer.specs.declared.Refusal.TheVariants.{HasFork, TableFull, NumbersSpent, NoFreeBlock, LogFull, BadWindow, BadName, NameUnfit, HasName, BadTurn}

abbrev pub number_of : Refusal → ℕ
number_of NoCall = 1
number_of OutsideLimits = 2
number_of TooShort = 3
number_of NotSound = 4
number_of NoSuchPage = 5
number_of NoSuchKind = 6
number_of NoLog = 7
number_of NoSuchRecord = 8
number_of WrongState = 9
number_of HasFork = 10
number_of TableFull = 11
number_of NumbersSpent = 12
number_of NoFreeBlock = 13
number_of LogFull = 14
number_of BadWindow = 15
number_of BadName = 16
number_of NameUnfit = 17
number_of HasName = 18
number_of BadTurn = 19
