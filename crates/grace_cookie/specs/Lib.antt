pub mod Cookies
