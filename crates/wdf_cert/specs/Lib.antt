pub mod CertFormat
pub mod CertText
pub mod Format
pub mod Laws
pub mod Making
pub mod Scanning
