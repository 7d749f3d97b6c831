-- To be believed: USB 2.0, 8.3.1 and table 8-1: the PID byte of each packet type, PID<3:0> below and its complement above.
-- Assumes nothing.
-- Hold it to: USB 2.0, 8.3.1 and table 8-1
use Rattle.std.specs.Prelude.{ℕ}

-- 0001B
abbrev pub OUT : ℕ
OUT = 0xE1

-- 1001B
abbrev pub IN : ℕ
IN = 0x69

-- 0101B
abbrev pub SOF : ℕ
SOF = 0xA5

-- 1101B
abbrev pub SETUP : ℕ
SETUP = 0x2D

-- 0011B
abbrev pub DATA0 : ℕ
DATA0 = 0xC3

-- 1011B
abbrev pub DATA1 : ℕ
DATA1 = 0x4B

-- 0111B
abbrev pub DATA2 : ℕ
DATA2 = 0x87

-- 1111B
abbrev pub MDATA : ℕ
MDATA = 0x0F

-- 0010B
abbrev pub ACK : ℕ
ACK = 0xD2

-- 1010B
abbrev pub NAK : ℕ
NAK = 0x5A

-- 1110B
abbrev pub STALL : ℕ
STALL = 0x1E

-- 0110B
abbrev pub NYET : ℕ
NYET = 0x96

-- 1100B, which is PRE's too; document 01 reads it as ERR
abbrev pub ERR : ℕ
ERR = 0x3C

-- 1000B
abbrev pub SPLIT : ℕ
SPLIT = 0x78

-- 0100B
abbrev pub PING : ℕ
PING = 0xB4

-- document 000: what stands for the PID of a malformed packet
abbrev pub MALFORMED : ℕ
MALFORMED = 0
