-- fdlibm 5.3's constants of k_sin.c, k_cos.c and e_rem_pio2.c, each by the bit pattern that fdlibm's comments give as two words
-- (docs/FDLIBM.md lists them). Definitions only.
use Rattle.std.specs.Prelude.{Float}
use Rattle.float.specs.Double.{lit}

abbrev pub half : Float
half = lit 0x3fe0_0000_0000_0000

abbrev pub one : Float
one = lit 0x3ff0_0000_0000_0000

abbrev pub zero : Float
zero = lit 0x0000_0000_0000_0000

abbrev pub S1 : Float
S1 = lit 0xbfc5_5555_5555_5549

abbrev pub S2 : Float
S2 = lit 0x3f81_1111_1110_f8a6

abbrev pub S3 : Float
S3 = lit 0xbf2a_01a0_19c1_61d5

abbrev pub S4 : Float
S4 = lit 0x3ec7_1de3_57b1_fe7d

abbrev pub S5 : Float
S5 = lit 0xbe5a_e5e6_8a2b_9ceb

abbrev pub S6 : Float
S6 = lit 0x3de5_d93a_5acf_d57c

abbrev pub C1 : Float
C1 = lit 0x3fa5_5555_5555_554c

abbrev pub C2 : Float
C2 = lit 0xbf56_c16c_16c1_5177

abbrev pub C3 : Float
C3 = lit 0x3efa_01a0_19cb_1590

abbrev pub C4 : Float
C4 = lit 0xbe92_7e4f_809c_52ad

abbrev pub C5 : Float
C5 = lit 0x3e21_ee9e_bdb4_b1c4

abbrev pub C6 : Float
C6 = lit 0xbda8_fae9_be88_38d4

-- 0.28125
abbrev pub nine_thirty_seconds : Float
nine_thirty_seconds = lit 0x3fd2_0000_0000_0000

abbrev pub invpio2 : Float
invpio2 = lit 0x3fe4_5f30_6dc9_c883

abbrev pub pio2-1 : Float
pio2-1 = lit 0x3ff9_21fb_5440_0000

abbrev pub pio2-1t : Float
pio2-1t = lit 0x3dd0_b461_1a62_6331

abbrev pub pio2-2 : Float
pio2-2 = lit 0x3dd0_b461_1a60_0000

abbrev pub pio2-2t : Float
pio2-2t = lit 0x3ba3_198a_2e03_7073

abbrev pub pio2-3 : Float
pio2-3 = lit 0x3ba3_198a_2e00_0000

abbrev pub pio2-3t : Float
pio2-3t = lit 0x397b_839a_2520_49c1

-- 524,288, above which sin and cos answer NaN
abbrev pub limit : Float
limit = lit 0x4120_0000_0000_0000
