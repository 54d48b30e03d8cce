-- What is proved of the definitions.
pub mod Back
pub mod ExactlyLaws
pub mod FirstByte
pub mod FirstNamed
pub mod HeaderBack
pub mod HeaderExactly
pub mod HeaderFront
pub mod HeaderLaws
pub mod Only
pub mod OwnBytes
pub mod RecordBack
pub mod RecordExactly
pub mod RecordLaws
pub mod RefusalLaws
pub mod VersionLaws
pub mod Written
